-- `steps` meets its contract. The loop's invariant: the steps that are left, from the present H, end where all ten do from 1/21.
-- Assumes nothing.
use mathlib.Core.Path.{◌≡◌}
use Rattle.arithmetic.specs.Checked.{squash, real, ◌⊘◌}
use Rattle.logarithms.specs.Ln.{ln_steps}
use Rattle.logarithms.proofs.steps.Given as goal

abbrev pub invariant-loop-k : goal.invariant-loop-k
invariant-loop-k l = ln_steps (squash l.s) l.k (squash l.h) ≡ ln_steps (squash l.s) 10 (real 1 ⊘ real 21)
