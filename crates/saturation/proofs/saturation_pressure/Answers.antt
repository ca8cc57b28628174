-- `saturation_pressure` meets its contract: it is the call of its curve. Assumes nothing.
use Rattle.saturation.specs.Calls.{saturation_pressure_of}
use Rattle.saturation.proofs.saturation_pressure.Goals as goal

pub returns : goal.returns
unfolding saturation_pressure_of
returns c = c.answer_numbered.ensures
