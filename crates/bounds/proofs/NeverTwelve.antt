-- Pressure, energy, enthalpy and isochoric heat capacity never refuse with 12, whatever the two numbers are; at every state in range they answer with the number.
use mathlib.Core.Path.{◌≡◌}
use lib.Ieee.{Float}
use Rattle.std.specs.Prelude.{Ok, Err}
use Rattle.refusals.specs.declared.Refusal.TheVariants.{WorkNotFinite}
use Rattle.fluids.specs.declared.Fluid.{Fluid}
use Rattle.equation.specs.State.{state_at, pressure_value}
use Rattle.values.specs.Values.{energy_value, enthalpy_value, isochoric_value}
use Rattle.properties.specs.Calls.{worked_density, pressure_of, energy_of, enthalpy_of, isochoric_of}
use Rattle.inputs.specs.Inputs.{state_permit}
use Rattle.ranges.proofs.Entry.{Finite, finite_in_range}
use Rattle.ranges.proofs.Passes.{entry_passes}
use Rattle.bounds.proofs.Permits.{never_12, answered, state_denied, state_granted, worked_in_range}

module _ (F : Fluid) (t ρ : Float) where
  pub finite_where_granted : state_permit F t ρ ≡ Ok tt → Finite F t (worked_density ρ)
  finite_where_granted g =
      let (temperature, density) = state_granted F t ρ g in
      finite_in_range F (entry_passes F) t (worked_density ρ) temperature (worked_in_range F t ρ density)

  pub pressure_never_12 : pressure_of F t ρ ≡ Err WorkNotFinite → ⊥
  unfolding pressure_of
  pressure_never_12 = never_12 (state_permit F t ρ) (pressure_value (state_at F t (worked_density ρ))) (state_denied F t ρ) (λ g. (finite_where_granted g).pressure)

  pub energy_never_12 : energy_of F t ρ ≡ Err WorkNotFinite → ⊥
  unfolding energy_of
  energy_never_12 = never_12 (state_permit F t ρ) (energy_value (state_at F t (worked_density ρ))) (state_denied F t ρ) (λ g. (finite_where_granted g).energy)

  pub enthalpy_never_12 : enthalpy_of F t ρ ≡ Err WorkNotFinite → ⊥
  unfolding enthalpy_of
  enthalpy_never_12 = never_12 (state_permit F t ρ) (enthalpy_value (state_at F t (worked_density ρ))) (state_denied F t ρ) (λ g. (finite_where_granted g).enthalpy)

  pub isochoric_never_12 : isochoric_of F t ρ ≡ Err WorkNotFinite → ⊥
  unfolding isochoric_of
  isochoric_never_12 = never_12 (state_permit F t ρ) (isochoric_value (state_at F t (worked_density ρ))) (state_denied F t ρ) (λ g. (finite_where_granted g).isochoric)

  -- every state in range has a pressure
  pub pressure_answered : state_permit F t ρ ≡ Ok tt → pressure_of F t ρ ≡ Ok (pressure_value (state_at F t (worked_density ρ)))
  unfolding pressure_of
  pressure_answered g = answered (state_permit F t ρ) (pressure_value (state_at F t (worked_density ρ))) g (finite_where_granted g).pressure
