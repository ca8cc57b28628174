-- The three saturation estimates never refuse with 12: where the call is permitted T is in the range over which they are finite.
use mathlib.Core.Path.{◌≡◌}
use lib.Dec.{T}
use lib.Ieee.{Float, le}
use lib.Ieee.Fits.{and_l}
use lib.Ieee.Scale.{finite}
use Rattle.std.specs.Prelude.{Ok, Err}
use Rattle.refusals.specs.declared.Refusal.TheVariants.{WorkNotFinite}
use Rattle.arithmetic.specs.Checked.{between}
use Rattle.fluids.specs.declared.Fluid.{Fluid}
use Rattle.fluids.specs.Entries.{entry_of}
use Rattle.saturation.specs.Estimates.{pressure_estimate, liquid_estimate, vapour_estimate}
use Rattle.inputs.specs.Inputs.{saturation_tests, saturation_permit}
use Rattle.inputs.proofs.Passed.{saturation_passed}
use Rattle.saturation.specs.Calls.{saturation_pressure_of, saturated_liquid_of, saturated_vapour_of}
use Rattle.intervals.proofs.Fractions.{holds}
use Rattle.refusals.proofs.InOrder.{never_denied}
use Rattle.bounds.proofs.Permits.{never_12}
use Rattle.ranges.proofs.Estimates.{estimates_finite}
use Rattle.ranges.proofs.Passes.{entry_estimate_ends, entry_estimates}

module _ (F : Fluid) (t : Float) where
  saturation_granted : saturation_permit F t ≡ Ok tt → T (le (entry_of F).least_T t) × T (le t (entry_of F).Tc)
  saturation_granted p =
      let (number, (temperature, (below, none))) = saturation_passed F t p in
      (and_l (le (entry_of F).least_T t) (le t (entry_of F).greatest_T) (holds (between (entry_of F).least_T t (entry_of F).greatest_T) temperature), holds (le t (entry_of F).Tc) below)

  saturation_denied : saturation_permit F t ≡ Err WorkNotFinite → ⊥
  unfolding saturation_permit
  saturation_denied = never_denied WorkNotFinite (saturation_tests F t) tt

  pub granted_finite : saturation_permit F t ≡ Ok tt → T (finite (pressure_estimate F t)) × T (finite (liquid_estimate F t)) × T (finite (vapour_estimate F t))
  granted_finite g = let (low, high) = saturation_granted g in estimates_finite F (entry_estimate_ends F) (entry_estimates F) t low high

  pub saturation_pressure_never_12 : saturation_pressure_of F t ≡ Err WorkNotFinite → ⊥
  unfolding saturation_pressure_of
  saturation_pressure_never_12 = never_12 (saturation_permit F t) (pressure_estimate F t) saturation_denied (λ g. (granted_finite g).0)

  pub saturated_liquid_never_12 : saturated_liquid_of F t ≡ Err WorkNotFinite → ⊥
  unfolding saturated_liquid_of
  saturated_liquid_never_12 = never_12 (saturation_permit F t) (liquid_estimate F t) saturation_denied (λ g. (granted_finite g).1)

  pub saturated_vapour_never_12 : saturated_vapour_of F t ≡ Err WorkNotFinite → ⊥
  unfolding saturated_vapour_of
  saturated_vapour_never_12 = never_12 (saturation_permit F t) (vapour_estimate F t) saturation_denied (λ g. (granted_finite g).2)
