-- `permit` meets its contract: the room is one test more than the inputs'. Assumes nothing.
use mathlib.Core.Path.{◌∙◌, ap}
use lib.Dec.{leb}
use Rattle.refusals.specs.declared.Refusal.TheVariants.{TooShort}
use Rattle.refusals.specs.Answer.{Permit}
use Rattle.refusals.specs.Order.{tested_of}
use Rattle.questions.specs.Call.{permit_of}
use Rattle.questions.proofs.call.permit.Goals as goal

pub returns : goal.returns
unfolding permit_of
returns c =
    c.tested.ensures ∙ ap (λ (before : Permit). tested_of before (leb 8 c.args.room) TooShort) c.inputs-before.ensures
