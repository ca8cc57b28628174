-- `prepare_inputs` meets its contract: two tests more than the first two. Assumes nothing.
use mathlib.Core.Path.{◌∙◌, ap, refl}
use mathlib.Core.Bool.{Bool}
use mathlib.Core.List.{[], ◌∷◌, ◌++◌}
use lib.Ieee.Scale.{finite}
use Rattle.refusals.specs.declared.Refusal.TheVariants as refuses
use Rattle.refusals.proofs.InOrder.{one_test}
use Rattle.inputs.specs.Inputs as Inputs
use Rattle.inputs.proofs.prepare_inputs.Goals as goal

pub returns : goal.returns
unfolding Inputs.prepare_permit
returns c =
    one_test (Inputs.beginning c.args.fluid (finite c.args.t) c.args.t ++ (Inputs.top_test c.args.fluid c.args.c ∷ [])) c.args.room refuses.TooShort c.tested.ensures
    (one_test (Inputs.beginning c.args.fluid (finite c.args.t) c.args.t) (Inputs.top_test c.args.fluid c.args.c).0 refuses.TopOutside c.tested-cells.ensures
    (c.temperature_inputs-before.ensures ∙ ap (λ (n : Bool). Inputs.temperature_permit c.args.fluid n c.args.t) c.finite.ensures)
    c.top_permitted-top.ensures)
    refl
