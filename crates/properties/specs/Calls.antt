-- The nine properties as calls: 01's refusals in 01's order, then the number.
use Rattle.std.specs.Prelude.{cond, not, ◌&&◌, [], ◌∷◌, Float}
use Rattle.std.specs.Float.Ieee.{le, eq}
use Rattle.std.specs.Float.Ieee.Scale.{finite}
use Rattle.refusals.specs.declared.Refusal.TheVariants.{NotStable, WorkNotFinite}
use Rattle.refusals.specs.Answer.{Permit}
use Rattle.refusals.specs.Answer.{Answer}
use Rattle.refusals.specs.Order.{first_of, permitted}
use Rattle.arithmetic.specs.Checked.{real}
use Rattle.arithmetic.specs.Answered.{answer_from}
use Rattle.fluids.specs.declared.Fluid.{Fluid}
use Rattle.inputs.specs.Inputs.{state_permit, potential_permit}
use Rattle.properties.specs.declared.Property.{Property}
use Rattle.properties.specs.declared.Property.TheVariants.{Pressure, Energy, Enthalpy, IsochoricHeatCapacity, Entropy, GibbsEnergy, HelmholtzEnergy, IsobaricHeatCapacity, SoundSpeed}
use Rattle.equation.specs.declared.state.State.{State}
use Rattle.equation.specs.State.{state_at, pressure_value}
use Rattle.stability.specs.Stability.{«V», K, Q, isobaric_value, sound_speed_value}
use Rattle.values.specs.Values.{energy_value, enthalpy_value, isochoric_value, entropy_value, gibbs_value, helmholtz_value}

-- a density of minus zero is worked as +0
unfoldable pub worked_density : Float → Float
worked_density ρ = cond (eq ρ (real 0)) (real 0) ρ

-- 12 where V, K or Q is not finite, then 11 where Q ≤ 0 or V ≤ 0
unfoldable pub stable_of : Float → Float → Float → Permit
stable_of v k q =
    first_of
    ((finite v && (finite k && finite q), WorkNotFinite)
    ∷ (not (le q (real 0)) && not (le v (real 0)), NotStable)
    ∷ [])

module _ (s : State) where
  -- V, K and Q are worked before 11 is tested
  unfoldable pub stability_permit : Permit
  stability_permit = stable_of («V» s) (K s) (Q s)

  abbrev pub stable_isobaric : Answer
  stable_isobaric = permitted stability_permit (answer_from (isobaric_value s))

  abbrev pub stable_sound_speed : Answer
  stable_sound_speed = permitted stability_permit (answer_from (sound_speed_value s))

-- ---- the call of a property: its inputs, then its work

-- 2, 3, 4; 10 as well where the formula has the logarithm of ρ
abbrev pub inputs_of : Property → Fluid → Float → Float → Permit
inputs_of Pressure = state_permit
inputs_of Energy = state_permit
inputs_of Enthalpy = state_permit
inputs_of IsochoricHeatCapacity = state_permit
inputs_of Entropy = potential_permit
inputs_of GibbsEnergy = potential_permit
inputs_of HelmholtzEnergy = potential_permit
inputs_of IsobaricHeatCapacity = state_permit
inputs_of SoundSpeed = state_permit

abbrev pub worked_of : Property → State → Answer
worked_of Pressure s = answer_from (pressure_value s)
worked_of Energy s = answer_from (energy_value s)
worked_of Enthalpy s = answer_from (enthalpy_value s)
worked_of IsochoricHeatCapacity s = answer_from (isochoric_value s)
worked_of Entropy s = answer_from (entropy_value s)
worked_of GibbsEnergy s = answer_from (gibbs_value s)
worked_of HelmholtzEnergy s = answer_from (helmholtz_value s)
worked_of IsobaricHeatCapacity s = stable_isobaric s
worked_of SoundSpeed s = stable_sound_speed s

abbrev pub call_of : Property → Fluid → Float → Float → Answer
call_of property F T ρ = permitted (inputs_of property F T ρ) (worked_of property (state_at F T (worked_density ρ)))

module _ (F : Fluid) (T ρ : Float) where
  -- pressure, Pa
  unfoldable pub pressure_of : Answer
  pressure_of = call_of Pressure F T ρ

  -- energy, enthalpy, J/mol
  unfoldable pub energy_of : Answer
  energy_of = call_of Energy F T ρ

  unfoldable pub enthalpy_of : Answer
  enthalpy_of = call_of Enthalpy F T ρ

  -- isochoric heat capacity, J/(mol K)
  unfoldable pub isochoric_of : Answer
  isochoric_of = call_of IsochoricHeatCapacity F T ρ

  -- entropy, J/(mol K); Gibbs and Helmholtz energy, J/mol
  unfoldable pub entropy_of : Answer
  entropy_of = call_of Entropy F T ρ

  unfoldable pub gibbs_of : Answer
  gibbs_of = call_of GibbsEnergy F T ρ

  unfoldable pub helmholtz_of : Answer
  helmholtz_of = call_of HelmholtzEnergy F T ρ

  -- isobaric heat capacity, J/(mol K); sound speed, m/s
  unfoldable pub isobaric_of : Answer
  isobaric_of = call_of IsobaricHeatCapacity F T ρ

  unfoldable pub sound_speed_of : Answer
  sound_speed_of = call_of SoundSpeed F T ρ
