-- `potential_inputs` meets its contract: one test more than those of a state. Assumes nothing.
use mathlib.Core.Path.{ap}
use mathlib.Core.Bool.{not}
use lib.Ieee.{Float, eq}
use Rattle.refusals.specs.declared.Refusal.TheVariants as refuses
use Rattle.refusals.proofs.InOrder.{one_test}
use Rattle.arithmetic.proofs.Literals.{lit_0}
use Rattle.inputs.specs.Inputs as Inputs
use Rattle.inputs.proofs.potential_inputs.Goals as goal

pub returns : goal.returns
unfolding Inputs.potential_permit Inputs.state_permit
returns c =
    one_test (Inputs.state_tests c.args.fluid c.args.t c.args.rho) _ refuses.AtZeroDensity c.tested.ensures c.state_inputs-before.ensures (ap (λ (z : Float). not (eq c.args.rho z)) lit_0)
