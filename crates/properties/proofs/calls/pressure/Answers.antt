-- `pressure` meets its contract: it is the call of its property. Assumes nothing.
use Rattle.properties.specs.Calls.{pressure_of}
use Rattle.properties.proofs.calls.pressure.Goals as goal

pub returns : goal.returns
unfolding pressure_of
returns c = c.answer_numbered.ensures
