-- `saturated_vapour` meets its contract: it is the call of its curve. Assumes nothing.
use Rattle.saturation.specs.Calls.{saturated_vapour_of}
use Rattle.saturation.proofs.saturated_vapour.Goals as goal

pub returns : goal.returns
unfolding saturated_vapour_of
returns c = c.answer_numbered.ensures
