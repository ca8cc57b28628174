-- `entropy` meets its contract: it is the call of its property. Assumes nothing.
use Rattle.properties.specs.Calls.{entropy_of}
use Rattle.properties.proofs.calls.entropy.Goals as goal

pub returns : goal.returns
unfolding entropy_of
returns c = c.answer_numbered.ensures
