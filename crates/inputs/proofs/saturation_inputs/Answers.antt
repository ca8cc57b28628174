-- `saturation_inputs` meets its contract: one test more than the first two, against the entry's own critical temperature. Assumes nothing.
use mathlib.Core.Path.{◌∙◌, ap}
use mathlib.Core.Bool.{Bool}
use lib.Ieee.{le}
use lib.Ieee.Scale.{finite}
use Rattle.refusals.specs.declared.Refusal.TheVariants as refuses
use Rattle.refusals.proofs.InOrder.{one_test}
use Rattle.fluids.specs.declared.Constants.{Constants}
use Rattle.fluids.specs.Entries.{entry_of}
use Rattle.inputs.specs.Inputs as Inputs
use Rattle.inputs.proofs.saturation_inputs.Goals as goal

pub returns : goal.returns
unfolding Inputs.saturation_permit
returns c =
    one_test (Inputs.beginning c.args.fluid (finite c.args.t) c.args.t) (le c.args.t (entry_of c.args.fluid).Tc) refuses.AboveCritical c.tested.ensures
    (c.temperature_inputs-before.ensures ∙ ap (λ (n : Bool). Inputs.temperature_permit c.args.fluid n c.args.t) c.finite.ensures)
    (ap (λ (k : Constants). le c.args.t k.critical_temperature) c.single_numbers-numbers.ensures)
