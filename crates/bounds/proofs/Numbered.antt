-- 17 comes exactly if no fluid has the number: the call of a fluid never ends with it, since none of its tests refuses with 17, and its work
-- refuses with 8, 9, 11, 12 and 16 alone.
use mathlib.Core.Path.{◌≡◌, refl}
use mathlib.Core.Logic.{◌↔◌}
use mathlib.Core.Bool.{Bool, true, false, not, ◌&&◌}
use mathlib.Core.List.{List, [], ◌∷◌}
use Prim.Native.Nat.{ℕ, ◌+◌}
use lib.ListN.{length}
use lib.Ieee.{Float, nan, inf, fin, le}
use lib.Ieee.Scale.{finite}
use Rattle.std.specs.Prelude.{Result, Ok, Err}
use Rattle.refusals.specs.declared.Refusal.{Refusal}
use Rattle.refusals.specs.declared.Refusal.TheVariants.{NotStable, WorkNotFinite, UnknownFluid}
use Rattle.refusals.specs.Answer.{Permit, Answer}
use Rattle.refusals.specs.Order.{permitted}
use Rattle.refusals.proofs.Apart.{ok≢err, other_code}
use Rattle.refusals.proofs.InOrder.{never_denied}
use Rattle.arithmetic.specs.Checked.{real}
use Rattle.arithmetic.specs.Answered.{answer_from}
use Rattle.fluids.specs.declared.Fluid.{Fluid}
use Rattle.fluids.specs.Entries.{fluid_numbered}
use Rattle.fluids.proofs.Lettered.{unnumbered}
use Rattle.inputs.specs.Numbered.{by_name}
use Rattle.inputs.specs.Inputs.{room_of, state_tests, potential_tests, saturation_tests, prepare_tests, state_permit, potential_permit, saturation_permit, prepare_permit}
use Rattle.equation.specs.declared.state.State.{State}
use Rattle.equation.specs.State.{state_at, pressure_value}
use Rattle.stability.specs.Stability.{«V», K, Q, isobaric_value, sound_speed_value}
use Rattle.values.specs.Values.{energy_value, enthalpy_value, isochoric_value, entropy_value, gibbs_value, helmholtz_value}
use Rattle.properties.specs.declared.Property.{Property}
use Rattle.properties.specs.declared.Property.TheVariants.{Pressure, Energy, Enthalpy, IsochoricHeatCapacity, Entropy, GibbsEnergy, HelmholtzEnergy, IsobaricHeatCapacity, SoundSpeed}
use Rattle.properties.specs.Calls.{worked_density, stable_of, stability_permit, inputs_of, worked_of, call_of, pressure_of, energy_of, enthalpy_of, isochoric_of, entropy_of, gibbs_of, helmholtz_of, isobaric_of, sound_speed_of}
use Rattle.saturation.specs.Calls.{saturation_pressure_of, saturated_liquid_of, saturated_vapour_of}
use Rattle.saturation.specs.Estimates.{pressure_estimate, liquid_estimate, vapour_estimate}
use Rattle.search.specs.Plain.{at_ends}
use Rattle.search.specs.Lists.{some_not_finite}
use Rattle.steps.specs.Steps.{pressures_of}
use Rattle.preparation.specs.Prepare.{prepared_by, prepare_of}
use Rattle.density.proofs.NeverNine.{plain_never, quick_call_never}
use Rattle.bounds.specs.NoAnswer.{Exactly17, NumberedCalls}

-- ---- by what the number names: a fluid, or else it is refused with 17

known_or_not : {A : Type 0} (refused : Refusal → A) (call : Fluid → A) → ((F : Fluid) → call F ≡ refused UnknownFluid → ⊥) → (named : Result Fluid Refusal) → ((r : Refusal) → named ≡ Err r → r ≡ UnknownFluid) → (by_name refused named call ≡ refused UnknownFluid) ↔ (named ≡ Err UnknownFluid)
known_or_not refused call never (Ok F) only = ((λ e. absurd (never F e)), (λ e. absurd (ok≢err e)))
known_or_not refused call never (Err r) only = rw (only r refl) ((λ e. refl), (λ e. refl))

pub exactly : {A : Type 0} (refused : Refusal → A) (call : Fluid → A) → ((F : Fluid) → call F ≡ refused UnknownFluid → ⊥) → Exactly17 refused call
exactly refused call never n = known_or_not refused call never (fluid_numbered n) (λ r e. unnumbered n e)

-- ---- no call of a fluid ends with it

-- what is no test's refusal and not the work's
permitted_never : (p : Permit) (a : Answer) → (p ≡ Err UnknownFluid → ⊥) → (a ≡ Err UnknownFluid → ⊥) → permitted p a ≡ Err UnknownFluid → ⊥
permitted_never (Ok _) a denied never e = never e
permitted_never (Err r) a denied never e = denied (cc)

value_never : (v : Float) → answer_from v ≡ Err UnknownFluid → ⊥
value_never nan e = let same : WorkNotFinite ≡ UnknownFluid = cc in other_code tt same
value_never (inf s) e = let same : WorkNotFinite ≡ UnknownFluid = cc in other_code tt same
value_never (fin s m d) e = ok≢err e

stable_never : (s : State) (v : Float) → permitted (stability_permit s) (answer_from v) ≡ Err UnknownFluid → ⊥
unfolding stability_permit stable_of
stable_never s v =
    permitted_never (stability_permit s) (answer_from v)
    (never_denied UnknownFluid ((finite («V» s) && (finite (K s) && finite (Q s)), WorkNotFinite) ∷ (not (le (Q s) (real 0)) && not (le («V» s) (real 0)), NotStable) ∷ []) tt)
    (value_never v)

worked_never : (property : Property) (s : State) → worked_of property s ≡ Err UnknownFluid → ⊥
worked_never Pressure s = value_never (pressure_value s)
worked_never Energy s = value_never (energy_value s)
worked_never Enthalpy s = value_never (enthalpy_value s)
worked_never IsochoricHeatCapacity s = value_never (isochoric_value s)
worked_never Entropy s = value_never (entropy_value s)
worked_never GibbsEnergy s = value_never (gibbs_value s)
worked_never HelmholtzEnergy s = value_never (helmholtz_value s)
worked_never IsobaricHeatCapacity s = stable_never s (isobaric_value s)
worked_never SoundSpeed s = stable_never s (sound_speed_value s)

module _ (F : Fluid) (t ρ : Float) where
  state_never : state_permit F t ρ ≡ Err UnknownFluid → ⊥
  unfolding state_permit
  state_never = never_denied UnknownFluid (state_tests F t ρ) tt

  potential_never : potential_permit F t ρ ≡ Err UnknownFluid → ⊥
  unfolding potential_permit
  potential_never = never_denied UnknownFluid (potential_tests F t ρ) tt

  inputs_never : (property : Property) → inputs_of property F t ρ ≡ Err UnknownFluid → ⊥
  inputs_never Pressure = state_never
  inputs_never Energy = state_never
  inputs_never Enthalpy = state_never
  inputs_never IsochoricHeatCapacity = state_never
  inputs_never Entropy = potential_never
  inputs_never GibbsEnergy = potential_never
  inputs_never HelmholtzEnergy = potential_never
  inputs_never IsobaricHeatCapacity = state_never
  inputs_never SoundSpeed = state_never

  property_never : (property : Property) → call_of property F t ρ ≡ Err UnknownFluid → ⊥
  property_never property =
      let s = state_at F t (worked_density ρ) in
      permitted_never (inputs_of property F t ρ) (worked_of property s) (inputs_never property) (worked_never property s)

property_17 : (property : Property) (t ρ : Float) → Exactly17 Err (λ F. call_of property F t ρ)
property_17 property t ρ = exactly Err (λ F. call_of property F t ρ) (λ F. property_never F t ρ property)

estimate_never : (F : Fluid) (t v : Float) → permitted (saturation_permit F t) (answer_from v) ≡ Err UnknownFluid → ⊥
unfolding saturation_permit
estimate_never F t v = permitted_never (saturation_permit F t) (answer_from v) (never_denied UnknownFluid (saturation_tests F t) tt) (value_never v)

prepared_never : (p : Permit) (b : Bool) → (p ≡ Err UnknownFluid → ⊥) → prepared_by p b ≡ Err UnknownFluid → ⊥
prepared_never (Err r) b denied e = denied (cc)
prepared_never (Ok _) true denied e = let same : WorkNotFinite ≡ UnknownFluid = cc in other_code tt same
prepared_never (Ok _) false denied e = ok≢err e

prepare_never : (F : Fluid) (t : Float) (c : ℕ) (g l : List Float) → prepare_of F t c g l ≡ Err UnknownFluid → ⊥
unfolding prepare_of prepare_permit
prepare_never F t c g l =
    let room = room_of c (length g) (length l) in
    prepared_never (prepare_permit F t c room) (some_not_finite (at_ends (pressures_of F t)) (c + 1)) (never_denied UnknownFluid (prepare_tests F t c room) tt)

pub numbered_calls : NumberedCalls
unfolding pressure_of energy_of enthalpy_of isochoric_of entropy_of gibbs_of helmholtz_of isobaric_of sound_speed_of saturation_pressure_of saturated_liquid_of saturated_vapour_of
numbered_calls = record {
  pressure = property_17 Pressure;
  energy = property_17 Energy;
  enthalpy = property_17 Enthalpy;
  isochoric = property_17 IsochoricHeatCapacity;
  entropy = property_17 Entropy;
  gibbs = property_17 GibbsEnergy;
  helmholtz = property_17 HelmholtzEnergy;
  isobaric = property_17 IsobaricHeatCapacity;
  sound_speed = property_17 SoundSpeed;
  saturation_pressure = λ t. exactly Err _ (λ F. estimate_never F t (pressure_estimate F t));
  saturated_liquid = λ t. exactly Err _ (λ F. estimate_never F t (liquid_estimate F t));
  saturated_vapour = λ t. exactly Err _ (λ F. estimate_never F t (vapour_estimate F t));
  prepare = λ t c g l. exactly Err _ (λ F. prepare_never F t c g l);
  plain = λ t P c side. exactly Err _ (λ F. plain_never F t P c side UnknownFluid tt tt tt);
  quick = λ t P c side g l. exactly Err _ (λ F. quick_call_never F t P c side UnknownFluid g l tt tt tt tt);
}
