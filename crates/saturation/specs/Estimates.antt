-- 01, "Saturation estimates": pressure, liquid and vapour density from θ = 1 − T/Tc. A subtracted term of 01 stands with its sign
-- in its coefficient: a − c·x and a + (−c)·x are the same in every bit (`arithmetic/proofs/Signs.antt`).
use Rattle.std.specs.Prelude.{List, ℕ, zero, suc, ◌+◌, ◌-◌, Float, length, get_or}
use Rattle.std.specs.Float.{nan}
use Rattle.arithmetic.specs.Checked.{real, ◌▷◌, ◌⊕◌, ◌⊖◌, ◌⊗◌, ◌⊘◌}
use Rattle.exponentials.specs.Exp.{exp_of}
use Rattle.elementary.specs.Power.{power_of}
use Rattle.fluids.specs.declared.Estimate.{Estimate}
use Rattle.fluids.specs.declared.Estimate.TheVariants.{Alone, Raised}
use Rattle.fluids.specs.declared.Fluid.{Fluid}
use Rattle.fluids.specs.Entry.{terms_of}
use Rattle.fluids.specs.Entries.{entry_of}
use Rattle.fluids.specs.declared.Curve.{Curve}
use Rattle.fluids.specs.declared.Curve.TheVariants.{Pressure, Liquid, Vapour}

unfoldable pub theta_of : Fluid → Float → Float
theta_of F T = real 1 ⊖ T ⊘ (entry_of F).Tc

-- n·θ, or n·θᵗ
unfoldable pub term_of : Float → Estimate → Float
term_of θ (Alone n) = n ⊗ θ
term_of θ (Raised n t) = n ⊗ power_of θ t

-- term i of a list
unfoldable pub term_at : Float → List Estimate → ℕ → Float
term_at θ terms i = term_of θ (get_or terms i (Alone nan))

-- s and the n terms from the k-th on, one after the other
unfoldable pub plus_terms : Float → List Estimate → Float → ℕ → ℕ → Float
plus_terms θ terms s k zero = s
plus_terms θ terms s k (suc n) = plus_terms θ terms s k n ▷ λ sum. sum ⊕ term_at θ terms (k + n)

-- the first of n terms, and those after it
unfoldable pub from_first : Float → List Estimate → ℕ → Float
from_first θ terms n = plus_terms θ terms (term_at θ terms 0) 1 (n - 1)

-- the sum of a curve's terms; the liquid's begins with 1
abbrev pub summed_as : Curve → Float → List Estimate → Float
summed_as Pressure θ terms = from_first θ terms (length terms)
summed_as Liquid θ terms = plus_terms θ terms (real 1) 0 (length terms)
summed_as Vapour θ terms = from_first θ terms (length terms)

-- as many terms as the fluid's entry has
unfoldable pub series_of : Fluid → Float → Curve → Float
series_of F θ curve = summed_as curve θ (terms_of (entry_of F) curve)

-- the numbers n and the powers t are the terms of the fluid's entry, in its order
module _ (F : Fluid) (T : Float) where
  -- pc·exp((Tc/T)·(n·θ + n·θᵗ + ..)), Pa
  unfoldable pub pressure_estimate : Float
  pressure_estimate = theta_of F T ▷ λ θ. (entry_of F).pc ⊗ exp_of (((entry_of F).Tc ⊘ T) ⊗ series_of F θ Pressure)

  -- ρc·(1 + n·θᵗ + ..), mol/dm³
  unfoldable pub liquid_estimate : Float
  liquid_estimate = theta_of F T ▷ λ θ. (entry_of F).ρc ⊗ series_of F θ Liquid

  -- ρc·exp(n·θᵗ + ..), mol/dm³
  unfoldable pub vapour_estimate : Float
  vapour_estimate = theta_of F T ▷ λ θ. (entry_of F).ρc ⊗ exp_of (series_of F θ Vapour)

  -- the estimate of a curve
  abbrev pub estimate_of : Curve → Float
  estimate_of Pressure = pressure_estimate
  estimate_of Liquid = liquid_estimate
  estimate_of Vapour = vapour_estimate
