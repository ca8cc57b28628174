-- `steps` meets its contract. The loop's invariant: the steps that are left, from the present H, end where all ten do from 1/21.
-- Assumes nothing.
use mathlib.Core.Path.{◌≡◌, sym, ◌∙◌, ap}
use Prim.Native.Nat.{◌-◌}
use native.Mathlib.Omega.{arith}
use Rattle.arithmetic.specs.Checked.{squash}
use Rattle.logarithms.specs.Ln.{ln_steps}
use Rattle.arithmetic.proofs.Operations.{squash_add, squash_mul}
use Rattle.logarithms.proofs.Turns.{ln_turn}
use Rattle.logarithms.proofs.Reciprocals.{reciprocal_at}
use Rattle.logarithms.proofs.steps.Goals as goal

pub loop-k-init : goal.loop-k-init
loop-k-init c = ap (ln_steps (squash c.args.s) 10) (reciprocal_at 10 (omega arith))

pub loop-k-preserved : goal.loop-k-preserved
loop-k-preserved c =
    simp (squash_add, squash_mul, reciprocal_at (c.loop-k.k - 1) (omega arith)) (sym (ln_turn (squash c.args.s) (squash c.loop-k.h) c.loop-k.k c.loop-k-test.true) ∙ c.loop-k.invariant)

pub returns : goal.returns
unfolding ln_steps
returns c =
    let none : c.loop-k.k ≡ 0 = omega arith in
    rw none at c.loop-k.invariant
