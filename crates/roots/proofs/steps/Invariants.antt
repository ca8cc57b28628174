-- `steps` meets its contract. The loop's invariant: the steps that are left, from the present y, end where all sixteen do from
-- 256. Assumes nothing.
use mathlib.Core.Path.{◌≡◌}
use Prim.Native.Nat.{◌-◌}
use Rattle.arithmetic.specs.Checked.{squash, real}
use Rattle.roots.specs.Root.{root_steps}
use Rattle.roots.proofs.steps.Given as goal

abbrev pub invariant-loop : goal.invariant-loop
invariant-loop l = root_steps (16 - l.counter) (squash l.x) (squash l.y) ≡ root_steps 16 (squash l.x) (real 256)
