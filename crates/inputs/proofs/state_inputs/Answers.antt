-- `state_inputs` meets its contract: one test more than the first two. Assumes nothing.
use mathlib.Core.Path.{◌∙◌, ap}
use mathlib.Core.Bool.{Bool, ◌&&◌}
use lib.Ieee.Scale.{finite}
use Rattle.refusals.specs.declared.Refusal.TheVariants as refuses
use Rattle.refusals.proofs.InOrder.{one_test}
use Rattle.inputs.specs.Inputs as Inputs
use Rattle.inputs.proofs.state_inputs.Goals as goal

pub returns : goal.returns
unfolding Inputs.state_permit
returns c =
    one_test (Inputs.beginning c.args.fluid (finite c.args.t && finite c.args.rho) c.args.t) _ refuses.DensityOutside c.tested.ensures
    (c.temperature_inputs-before.ensures ∙ ap (λ (n : Bool). Inputs.temperature_permit c.args.fluid n c.args.t) c.both_finite.ensures)
    c.density_permitted-density.ensures
