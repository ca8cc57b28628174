-- ln does not see whether its argument was squashed: out of range it is `nan`, and in range x is finite; and what it gives is finite or `nan`, as its last operation is.
use mathlib.Core.Path.{◌≡◌, refl, ◌∙◌, ap}
use lib.Ieee.{Float, binary64, of_int}
use Rattle.arithmetic.specs.Checked.{squash, within}
use Rattle.logarithms.specs.Ln.{m_of, e_of, ln_work, ln_of}
use Rattle.arithmetic.proofs.Within.{within_squash, within_after}
use Rattle.arithmetic.proofs.Operations.{⊕_squashed}
use Rattle.arithmetic.proofs.Forced.{forced}
use Rattle.logarithms.proofs.Literals.{finite_two⁻60, finite_two60}

module _ (x : Float) where
  pub ln_squash : ln_of (squash x) ≡ ln_of x
  unfolding ln_of
  ln_squash = within_squash _ _ x (λ (y : Float). ln_work (m_of y) (of_int binary64 (e_of y))) finite_two⁻60 finite_two60

  pub ln_squashed : squash (ln_of x) ≡ ln_of x
  unfolding ln_of ln_work
  ln_squashed = within_after _ _ x _ squash refl ∙ ap (within _ _ x) (simp forced (⊕_squashed _ _))
