-- What is kept of a temperature, part by part: that τ and ln τ are computed first changes neither.
use mathlib.Core.Path.{◌≡◌}
use lib.Ieee.{Float}
use Rattle.arithmetic.specs.Checked.{◌⊘◌}
use Rattle.arithmetic.proofs.Forced.{forced}
use Rattle.logarithms.specs.Ln.{ln_of}
use Rattle.fluids.specs.declared.Fluid.{Fluid}
use Rattle.fluids.specs.Entries.{entry_of}
use Rattle.kept.specs.Kept.{kept_of}

module _ (F : Fluid) (T : Float) where
  pub kept_fluid : (kept_of F T).fluid ≡ F
  unfolding kept_of
  kept_fluid = simp forced

  pub kept_t : (kept_of F T).t ≡ T
  unfolding kept_of
  kept_t = simp forced

  pub kept_tau : (kept_of F T).tau ≡ (entry_of F).Tc ⊘ T
  unfolding kept_of
  kept_tau = simp forced

  pub kept_ln_tau : (kept_of F T).ln_tau ≡ ln_of ((entry_of F).Tc ⊘ T)
  unfolding kept_of
  kept_ln_tau = simp forced
