-- `end_pressure` meets its contract: an end is a step, and inside the most cells where j is at most so many. Assumes nothing.
use mathlib.Core.Path.{◌∙◌}
use native.Mathlib.Omega.{arith}
use Rattle.arithmetic.proofs.Literals.{lit_nan}
use Rattle.search.specs.Plain.{end_step}
use Rattle.steps.proofs.Inside.{pressure_beyond}
use Rattle.steps.proofs.end_pressure.Goals as goal

pub overflow_mul-j : goal.overflow_mul-j
overflow_mul-j c = omega arith

pub returns-then-j-le-MOST_CELLS : goal.returns-then-j-le-MOST_CELLS
returns-then-j-le-MOST_CELLS c = c.step_pressure.ensures

pub returns : goal.returns
returns c = lit_nan ∙ pressure_beyond _ (end_step c.args.j) (omega arith)
