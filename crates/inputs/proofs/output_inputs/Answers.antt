-- `output_inputs` meets its contract: the room is one test more than the first two. Assumes nothing.
use mathlib.Core.Path.{refl, ◌∙◌, ap}
use mathlib.Core.Bool.{Bool}
use lib.Ieee.Scale.{finite}
use Rattle.refusals.specs.declared.Refusal.TheVariants as refuses
use Rattle.refusals.proofs.InOrder.{one_test}
use Rattle.inputs.specs.Inputs as Inputs
use Rattle.inputs.proofs.output_inputs.Goals as goal

pub returns : goal.returns
unfolding Inputs.output_permit
returns c =
    one_test (Inputs.beginning c.args.fluid (finite c.args.t) c.args.t) c.args.room refuses.TooShort c.tested.ensures
    (c.temperature_inputs-before.ensures ∙ ap (λ (n : Bool). Inputs.temperature_permit c.args.fluid n c.args.t) c.finite.ensures)
    refl
