-- `step_density` meets its contract: up to the most cells k fits a binary64, and the literal is 2⁻³⁰. Assumes nothing.
use mathlib.Core.Path.{sym, ◌∙◌, ap}
use native.Mathlib.Omega.{arith}
use lib.Dec.{le→leb}
use lib.Ieee.{binary64, mul, in_float}
use Rattle.arithmetic.specs.Checked.{real}
use Rattle.arithmetic.proofs.Literals.{lit_nan}
use Rattle.steps.specs.Steps.{step_density_of}
use Rattle.steps.proofs.Literals.{lit_step}
use Rattle.steps.proofs.Inside.{step_inside, step_beyond}
use Rattle.steps.proofs.step_density.Goals as goal

pub int_to_float-result : goal.int_to_float-result
unfolding in_float
int_to_float-result c = le→leb c.args.k 9007199254740992 (omega arith)

pub returns-then-k-le-MOST_STEPS : goal.returns-then-k-le-MOST_STEPS
unfolding step_density_of
returns-then-k-le-MOST_STEPS c =
    ap (mul binary64 (real c.args.k)) lit_step ∙ sym (step_inside c.args.k _ (omega arith))

pub returns : goal.returns
returns c = lit_nan ∙ step_beyond c.args.k _ (omega arith)
