-- `i1_of` meets its contract, which is that of `ideal::i1` at the parts of a state. Assumes nothing.
use Rattle.values.specs.Values.{i1}
use Rattle.values.proofs.i1_of.Goals as goal

pub returns : goal.returns
unfolding i1
returns c = c.i1.ensures
