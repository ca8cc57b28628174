-- `step_pressure` meets its contract: the pressure at the step's density. Assumes nothing.
use mathlib.Core.Path.{sym, ◌∙◌, ap}
use native.Mathlib.Omega.{arith}
use Rattle.arithmetic.proofs.Literals.{lit_nan}
use Rattle.equation.specs.State.{pressure_at}
use Rattle.steps.specs.Steps.{step_pressure_of}
use Rattle.steps.proofs.Inside.{pressure_inside, pressure_beyond, at_step}
use Rattle.steps.proofs.step_pressure.Goals as goal

pub returns-then-k-le-MOST_STEPS : goal.returns-then-k-le-MOST_STEPS
unfolding step_pressure_of
returns-then-k-le-MOST_STEPS c =
    c.pressure_at.ensures
    ∙ ap (pressure_at _) (at_step _ c.args.k _ (omega arith) c.step_density.ensures)
    ∙ sym (pressure_inside _ c.args.k (omega arith))

pub returns : goal.returns
returns c = lit_nan ∙ pressure_beyond _ c.args.k (omega arith)
