-- `energy` meets its contract: it is the call of its property. Assumes nothing.
use Rattle.properties.specs.Calls.{energy_of}
use Rattle.properties.proofs.calls.energy.Goals as goal

pub returns : goal.returns
unfolding energy_of
returns c = c.answer_numbered.ensures
