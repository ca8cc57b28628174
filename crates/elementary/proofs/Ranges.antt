-- A power does not see whether x was squashed: neither its test for 0 nor ln does; and what it gives is finite or `nan`, as 0 and exp are.
use mathlib.Core.Path.{◌≡◌, refl}
use mathlib.Core.Bool.{Bool, true, false, cond}
use lib.Ieee.{Float, nan, inf, fin, of_int, round, eq}
use Rattle.arithmetic.specs.Checked.{squash, real, ◌⊗◌}
use Rattle.exponentials.specs.Exp.{exp_of}
use Rattle.exponentials.proofs.ExpRange.{exp_squashed}
use Rattle.logarithms.specs.Ln.{ln_of}
use Rattle.logarithms.proofs.Ranges.{ln_squash}
use Rattle.elementary.specs.Power.{power_of}
use Rattle.arithmetic.proofs.Literals.{squash_0}

not_zero_squash : (x : Float) → eq (squash x) (real 0) ≡ eq x (real 0)
unfolding eq of_int round
not_zero_squash nan = refl
not_zero_squash (inf s) = refl
not_zero_squash (fin s m e) = refl

module _ (x t : Float) where
  pub power_squash : power_of (squash x) t ≡ power_of x t
  unfolding power_of
  power_squash = simp (not_zero_squash x, ln_squash x)

  pub power_squashed : squash (power_of x t) ≡ power_of x t
  unfolding power_of
  power_squashed = go (eq x (real 0))
    where
      go : (b : Bool) → squash (cond b (real 0) (exp_of (t ⊗ ln_of x))) ≡ cond b (real 0) (exp_of (t ⊗ ln_of x))
      go true = squash_0
      go false = exp_squashed (t ⊗ ln_of x)
