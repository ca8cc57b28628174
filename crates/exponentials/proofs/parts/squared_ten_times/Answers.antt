-- `squared_ten_times` meets its contract. The loop's invariant: the squares that are left, from the present H, end where all ten do
-- from h. Assumes nothing.
use mathlib.Core.Path.{◌≡◌, sym, ◌∙◌}
use Prim.Native.Nat.{◌-◌, ◌+◌}
use native.Mathlib.Omega.{arith}
use Rattle.arithmetic.specs.Checked.{squash}
use Rattle.arithmetic.proofs.Operations.{squash_mul}
use Rattle.exponentials.specs.Exp.{squared}
use Rattle.exponentials.proofs.ExpTurn.{squared_turn}
use Rattle.exponentials.proofs.parts.squared_ten_times.Goals as goal

pub loop-preserved : goal.loop-preserved
loop-preserved c =
    let left : 10 - (c.loop.counter + 1) ≡ 10 - c.loop.counter - 1 = omega arith in
    rw (left, squash_mul) (sym (squared_turn (squash c.loop.squared) (10 - c.loop.counter) (omega arith)) ∙ c.loop.invariant)

pub returns : goal.returns
unfolding squared
returns c =
    let none : 10 - c.loop.counter ≡ 0 = omega arith in
    rw none at c.loop.invariant
