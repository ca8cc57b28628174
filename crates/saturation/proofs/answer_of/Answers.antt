-- `answer_of` meets its contract: what was permitted has a finite T. Assumes nothing.
use mathlib.Core.Path.{sym}
use Rattle.saturation.proofs.Granted.{saturation_finite}
use Rattle.saturation.proofs.answer_of.Goals as goal

pub value_of-requires : goal.value_of-requires
value_of-requires c = saturation_finite _ _ (sym c.in_ok-saturation_inputs.ensures)
