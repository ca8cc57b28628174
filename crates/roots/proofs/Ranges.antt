-- root does not see whether its argument was squashed: out of range it is `nan`, and in range x is finite; and what it gives is finite or `nan`, as each step is.
use mathlib.Core.Path.{◌≡◌, refl, ◌∙◌, ap}
use Prim.Native.Nat.{ℕ, zero, suc}
use lib.Ieee.{Float}
use Rattle.arithmetic.specs.Checked.{squash, real, within, ◌⊕◌, ◌⊘◌}
use Rattle.roots.specs.Root.{root_steps, root_of}
use Rattle.arithmetic.proofs.Within.{within_squash, within_after}
use Rattle.arithmetic.proofs.Operations.{⊘_squashed}
use Rattle.arithmetic.proofs.Forced.{forced}
use Rattle.roots.proofs.Literals.{squash_256, finite_1, finite_1e8}

root_steps_squashed : (k : ℕ) (x y : Float) → squash y ≡ y → squash (root_steps k x y) ≡ root_steps k x y
unfolding root_steps
root_steps_squashed zero x y p = p
root_steps_squashed (suc k) x y p = simp forced (root_steps_squashed k x ((y ⊕ x ⊘ y) ⊘ real 2) (⊘_squashed _ _))

module _ (x : Float) where
  pub root_squash : root_of (squash x) ≡ root_of x
  unfolding root_of
  root_squash = within_squash _ _ x (λ (y : Float). root_steps 16 y (real 256)) finite_1 finite_1e8

  pub root_squashed : squash (root_of x) ≡ root_of x
  unfolding root_of
  root_squashed = within_after _ _ x _ squash refl ∙ ap (within _ _ x) (root_steps_squashed 16 x (real 256) squash_256)
