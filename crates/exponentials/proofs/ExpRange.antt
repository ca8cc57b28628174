-- exp does not see whether its argument was squashed: out of range it is `nan`, and in range the argument is finite; and what it
-- gives is finite or `nan`.
use mathlib.Core.Path.{◌≡◌, refl, ◌∙◌, ap}
use Prim.Native.Nat.{ℕ, zero, suc}
use lib.Ieee.{Float}
use Rattle.arithmetic.specs.Checked.{squash, real, within, ◌⊕◌, ◌⊗◌, ◌⊘◌}
use Rattle.exponentials.specs.Exp.{exp_steps, squared, exp_work, exp_of}
use Rattle.arithmetic.proofs.Within.{within_squash, within_after}
use Rattle.arithmetic.proofs.Operations.{⊕_squashed, ⊗_squashed}
use Rattle.arithmetic.proofs.Forced.{forced}
use Rattle.arithmetic.proofs.Literals.{squash_1}
use Rattle.exponentials.proofs.Literals.{finite_700, finite_minus_700}

module _ (x : Float) where
  pub exp_squash : exp_of (squash x) ≡ exp_of x
  unfolding exp_of
  exp_squash = within_squash _ _ x exp_work finite_minus_700 finite_700

-- ---- what it gives
squared_squashed : (k : ℕ) (H : Float) → squash H ≡ H → squash (squared k H) ≡ squared k H
unfolding squared
squared_squashed zero H p = p
squared_squashed (suc k) H p = simp forced (squared_squashed k (H ⊗ H) (⊗_squashed H H))

exp_steps_squashed : (k : ℕ) (y H : Float) → squash H ≡ H → squash (exp_steps y k H) ≡ exp_steps y k H
unfolding exp_steps
exp_steps_squashed zero y H p = p
exp_steps_squashed (suc k) y H p = simp forced (exp_steps_squashed k y (real 1 ⊕ (y ⊗ H) ⊘ real (suc k)) (⊕_squashed _ _))

module _ (x : Float) where
  pub exp_squashed : squash (exp_of x) ≡ exp_of x
  unfolding exp_of exp_work
  exp_squashed = within_after _ _ x _ squash refl ∙ ap (within _ _ x) (simp forced (squared_squashed 10 _ (exp_steps_squashed 16 _ (real 1) squash_1)))
