-- `saturated_liquid` meets its contract: it is the call of its curve. Assumes nothing.
use Rattle.saturation.specs.Calls.{saturated_liquid_of}
use Rattle.saturation.proofs.saturated_liquid.Goals as goal

pub returns : goal.returns
unfolding saturated_liquid_of
returns c = c.answer_numbered.ensures
