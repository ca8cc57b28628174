-- `squared_ten_times` meets its contract. The loop's invariant: the squares that are left, from the present H, end where all ten do
-- from h. Assumes nothing.
use mathlib.Core.Path.{◌≡◌}
use Prim.Native.Nat.{◌-◌}
use Rattle.arithmetic.specs.Checked.{squash}
use Rattle.exponentials.specs.Exp.{squared}
use Rattle.exponentials.proofs.parts.squared_ten_times.Given as goal

abbrev pub invariant-loop : goal.invariant-loop
invariant-loop l = squared (10 - l.counter) (squash l.squared) ≡ squared 10 (squash l.h)
