-- `i0_of` meets its contract, which is that of `ideal::i0` at the parts of a state. Assumes nothing.
use Rattle.values.specs.Values.{i0}
use Rattle.values.proofs.i0_of.Goals as goal

pub returns : goal.returns
unfolding i0
returns c = c.i0.ensures
