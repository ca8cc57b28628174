-- I0, I1 and I2 are finite or `nan`: each ends with a checked sum.
use mathlib.Core.Path.{◌≡◌}
use lib.Ieee.{Float}
use Rattle.arithmetic.specs.Checked.{squash}
use Rattle.arithmetic.proofs.Operations.{⊕_squashed}
use Rattle.fluids.specs.declared.Fluid.{Fluid}
use Rattle.ideal.specs.Ideal.{I0, I1, I2}

module _ (F : Fluid) (T : Float) where
  pub i0_squashed : (τ y δ : Float) → squash (I0 F T τ y δ) ≡ I0 F T τ y δ
  unfolding I0
  i0_squashed τ y δ = ⊕_squashed _ _

  pub i1_squashed : (τ : Float) → squash (I1 F T τ) ≡ I1 F T τ
  unfolding I1
  i1_squashed τ = ⊕_squashed _ _

  pub i2_squashed : squash (I2 F T) ≡ I2 F T
  unfolding I2
  i2_squashed = ⊕_squashed _ _
