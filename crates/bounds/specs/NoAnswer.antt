-- docs/NO-ANSWER.md, "When is there no answer?", line by line: when each call refuses with 12, and what the density searches refuse
-- with; proofs/NoAnswer.antt proves it of every fluid.
use Rattle.std.specs.Prelude.{◌≡◌, ◌↔◌, List, [], ◌∷◌, true, false, ℕ, ◌^◌, length, Float, Result, Ok, Err}
use Rattle.std.specs.Float.Ieee.{le, lt, eq}
use Rattle.std.specs.Float.Ieee.Scale.{finite}
use Rattle.refusals.specs.declared.Refusal.{Refusal}
use Rattle.refusals.specs.declared.Refusal.TheVariants.{NoCell, NotEnclosed, NotNeighbours, WorkNotFinite, UnknownFluid}
use Rattle.refusals.specs.Answer.{Answer}
use Rattle.refusals.specs.Code.{answer_code_of, OneOf}
use Rattle.arithmetic.specs.Checked.{real, two⁻, minus, between, ◌⊕◌, ◌⊗◌, ◌⊘◌}
use Rattle.elementary.specs.Calls.{exponential_of, logarithm_of, square_root_of}
use Rattle.fluids.specs.declared.Fluid.{Fluid}
use Rattle.fluids.specs.Entries.{entry_of, fluid_numbered}
use Rattle.inputs.specs.Numbered.{by_number}
use Rattle.equation.specs.State.{state_at}
use Rattle.stability.specs.Stability.{«V», K, Q}
use Rattle.properties.specs.Calls.{worked_density, stability_permit, pressure_of, energy_of, enthalpy_of, isochoric_of, entropy_of, gibbs_of, helmholtz_of, isobaric_of, sound_speed_of}
use Rattle.inputs.specs.Inputs.{state_permit, potential_permit}
use Rattle.saturation.specs.Calls.{saturation_pressure_of, saturated_liquid_of, saturated_vapour_of}
use Rattle.search.specs.Found.{state}
use Rattle.search.specs.Plain.{end_step, at_ends}
use Rattle.search.specs.Enclosed.{NoCellEncloses}
use Rattle.search.specs.declared.Side.{Side}
use Rattle.search.specs.declared.Side.TheVariants.{FromBelow, FromAbove}
use Rattle.search.specs.declared.Word.{Word}
use Rattle.search.specs.declared.Found.{Found}
use Rattle.inputs.specs.Inputs.{room_of, search_permit, prepare_permit}
use Rattle.steps.specs.Steps.{pressures_of}
use Rattle.density.specs.Calls.{plain_of, quick_of}
use Rattle.preparation.specs.Prepare.{prepare_of, greatest_after, least_after}
use Rattle.density.specs.Answers.{Answers}

abbrev pub Never12 : Answer → Type 0
Never12 a = a ≡ Err WorkNotFinite → ⊥

abbrev pub Exactly12 : Answer → Type 0 → Type 0
Exactly12 a condition = (a ≡ Err WorkNotFinite) ↔ condition

-- exp, ln and root, at a finite x: outside their ranges
pub record ElementaryCalls : Type 0 where
  pub exponential : (x : Float) → Exactly12 (exponential_of x) ((finite x ≡ true) × (between (minus (real 700)) x (real 700) ≡ false))
  pub logarithm : (x : Float) → Exactly12 (logarithm_of x) ((finite x ≡ true) × (between (two⁻ 60) x (real (2 ^ 60)) ≡ false))
  pub square_root : (x : Float) → Exactly12 (square_root_of x) ((finite x ≡ true) × (between (real 1) x (real (10 ^ 8)) ≡ false))

module _ (F : Fluid) (t ρ : Float) where
  -- permitted, so in range with a density above 0, and δ under 2⁻⁶⁰
  abbrev pub SmallDensity : Type 0
  SmallDensity = (potential_permit F t ρ ≡ Ok tt) × (lt (state_at F t ρ).delta (two⁻ 60) ≡ true)

  -- in range, with Q > 0 and V > 0
  abbrev pub StableState : Type 0
  StableState = (state_permit F t ρ ≡ Ok tt) × (stability_permit (state_at F t (worked_density ρ)) ≡ Ok tt)

  -- sound speed's (R·T)/M·(Q + K·K/V), the root's argument
  abbrev pub root_argument : Float
  root_argument = ((entry_of F).R ⊗ t) ⊘ (entry_of F).M ⊗ (Q (state_at F t (worked_density ρ)) ⊕ K (state_at F t (worked_density ρ)) ⊗ K (state_at F t (worked_density ρ)) ⊘ «V» (state_at F t (worked_density ρ)))

  -- 1 + 2·S1 is 0, and Q, which is S2 then, lies under 2⁻⁹³⁰
  abbrev pub VanishingQ : Type 0
  VanishingQ = (eq (real 1 ⊕ real 2 ⊗ (state_at F t (worked_density ρ)).sums.s1) (real 0) ≡ true) × (le (two⁻ 930) (Q (state_at F t (worked_density ρ))) ≡ false)

-- the nine properties, whatever the two numbers are
pub record PropertyCalls (F : Fluid) : Type 0 where
  pub pressure : (t ρ : Float) → Never12 (pressure_of F t ρ)
  pub energy : (t ρ : Float) → Never12 (energy_of F t ρ)
  pub enthalpy : (t ρ : Float) → Never12 (enthalpy_of F t ρ)
  pub isochoric : (t ρ : Float) → Never12 (isochoric_of F t ρ)
  pub entropy : (t ρ : Float) → Exactly12 (entropy_of F t ρ) (SmallDensity F t ρ)
  pub gibbs : (t ρ : Float) → Exactly12 (gibbs_of F t ρ) (SmallDensity F t ρ)
  pub helmholtz : (t ρ : Float) → Exactly12 (helmholtz_of F t ρ) (SmallDensity F t ρ)
  pub sound_speed : (t ρ : Float) → Exactly12 (sound_speed_of F t ρ) (StableState F t ρ × (between (real 1) (root_argument F t ρ) (real (10 ^ 8)) ≡ false))
  -- one way only: whether such a state is there is open
  pub isobaric : (t ρ : Float) → isobaric_of F t ρ ≡ Err WorkNotFinite → StableState F t ρ × VanishingQ F t ρ

pub record EstimateCalls (F : Fluid) : Type 0 where
  pub saturation_pressure : (t : Float) → Never12 (saturation_pressure_of F t)
  pub saturated_liquid : (t : Float) → Never12 (saturated_liquid_of F t)
  pub saturated_vapour : (t : Float) → Never12 (saturated_vapour_of F t)

-- a search never ends with the refusal e
abbrev pub Never : Refusal → Result Found Refusal → Type 0
Never e f = f ≡ Err e → ⊥

-- the searches, with no proviso
pub record SearchCalls (F : Fluid) : Type 0 where
  -- a preparation never fails at a permitted T and c in lists long enough
  pub prepared : (t : Float) (c : ℕ) (g l : List Float) → prepare_permit F t c (room_of c (length g) (length l)) ≡ Ok tt → prepare_of F t c g l ≡ Ok tt
  -- whatever the inputs: a plain search never ends with 9, 12 or 16
  pub plain : (t P : Float) (c : ℕ) (side : Side) → Never NotNeighbours (plain_of F t P c side) × Never WorkNotFinite (plain_of F t P c side) × Never NotEnclosed (plain_of F t P c side)
  -- a quick one never with 9 or 12, and over prepared lists never with 16
  pub quick : (t P : Float) (c : ℕ) (side : Side) (g l : List Float) → Never NotNeighbours (quick_of F t P c side g l) × Never WorkNotFinite (quick_of F t P c side g l)
  pub quick_prepared : (t P : Float) (c : ℕ) (side : Side) (g l : List Float) → prepare_of F t c g l ≡ Ok tt → Never NotEnclosed (quick_of F t P c side (greatest_after F t c g l) (least_after F t c g l))
  -- 8 comes exactly if T, P and c are permitted and, from below, no coarse cell j has p(j) ≤ P < p(j+1), from above, p(c) ≤ P
  pub from_below_lem : (t P : Float) (c : ℕ) → (plain_of F t P c FromBelow ≡ Err NoCell) ↔ ((search_permit F t P c true ≡ Ok tt) × NoCellEncloses (at_ends (pressures_of F t)) P c)
  pub from_above_lem : (t P : Float) (c : ℕ) → (plain_of F t P c FromAbove ≡ Err NoCell) ↔ ((search_permit F t P c true ≡ Ok tt) × (le (pressures_of F t (end_step c)) P ≡ true))
  -- and permitted inputs meet no other refusal
  pub only_8 : (t P : Float) (c : ℕ) (side : Side) → search_permit F t P c true ≡ Ok tt → (e : Refusal) → plain_of F t P c side ≡ Err e → e ≡ NoCell
  -- an answered density encloses P
  pub encloses : (t P : Float) (c : ℕ) (side : Side) (density : Float) (word : Word) → plain_of F t P c side ≡ Ok (state density word) → Answers F t P c density word
  -- up to the fluid's own top every permitted T and P gets a density, from either side
  pub answered : (t P : Float) (side : Side) → search_permit F t P (entry_of F).top_cells true ≡ Ok tt → (density : Float) × (word : Word) × (plain_of F t P (entry_of F).top_cells side ≡ Ok (state density word))

-- so the code of a call is one of these, whatever its inputs are
pub record Codes (F : Fluid) : Type 0 where
  pub pressure : (t ρ : Float) → OneOf (answer_code_of (pressure_of F t ρ)) (0 ∷ 2 ∷ 3 ∷ 4 ∷ [])
  pub energy : (t ρ : Float) → OneOf (answer_code_of (energy_of F t ρ)) (0 ∷ 2 ∷ 3 ∷ 4 ∷ [])
  pub enthalpy : (t ρ : Float) → OneOf (answer_code_of (enthalpy_of F t ρ)) (0 ∷ 2 ∷ 3 ∷ 4 ∷ [])
  pub isochoric : (t ρ : Float) → OneOf (answer_code_of (isochoric_of F t ρ)) (0 ∷ 2 ∷ 3 ∷ 4 ∷ [])
  pub saturation_pressure : (t : Float) → OneOf (answer_code_of (saturation_pressure_of F t)) (0 ∷ 2 ∷ 3 ∷ 13 ∷ [])
  pub saturated_liquid : (t : Float) → OneOf (answer_code_of (saturated_liquid_of F t)) (0 ∷ 2 ∷ 3 ∷ 13 ∷ [])
  pub saturated_vapour : (t : Float) → OneOf (answer_code_of (saturated_vapour_of F t)) (0 ∷ 2 ∷ 3 ∷ 13 ∷ [])
  pub prepare : (t : Float) (c : ℕ) (g l : List Float) → OneOf (answer_code_of (prepare_of F t c g l)) (0 ∷ 2 ∷ 3 ∷ 6 ∷ 7 ∷ [])
  pub plain : (t P : Float) (c : ℕ) (side : Side) → OneOf (answer_code_of (plain_of F t P c side)) (0 ∷ 2 ∷ 3 ∷ 5 ∷ 6 ∷ 8 ∷ [])
  -- up to the fluid's own top
  pub plain_to_the_top : (t P : Float) (side : Side) → OneOf (answer_code_of (plain_of F t P (entry_of F).top_cells side)) (0 ∷ 2 ∷ 3 ∷ 5 ∷ [])

-- 17: a call for the fluid of the number n ends with it exactly if no fluid has that number, whatever the other inputs are
abbrev pub Exactly17 : {A : Type 0} → (Refusal → A) → (Fluid → A) → Type 0
Exactly17 refused call = (n : ℕ) → (by_number refused n call ≡ refused UnknownFluid) ↔ (fluid_numbered n ≡ Err UnknownFluid)

pub record NumberedCalls : Type 0 where
  pub pressure : (t ρ : Float) → Exactly17 Err (λ F. pressure_of F t ρ)
  pub energy : (t ρ : Float) → Exactly17 Err (λ F. energy_of F t ρ)
  pub enthalpy : (t ρ : Float) → Exactly17 Err (λ F. enthalpy_of F t ρ)
  pub isochoric : (t ρ : Float) → Exactly17 Err (λ F. isochoric_of F t ρ)
  pub entropy : (t ρ : Float) → Exactly17 Err (λ F. entropy_of F t ρ)
  pub gibbs : (t ρ : Float) → Exactly17 Err (λ F. gibbs_of F t ρ)
  pub helmholtz : (t ρ : Float) → Exactly17 Err (λ F. helmholtz_of F t ρ)
  pub isobaric : (t ρ : Float) → Exactly17 Err (λ F. isobaric_of F t ρ)
  pub sound_speed : (t ρ : Float) → Exactly17 Err (λ F. sound_speed_of F t ρ)
  pub saturation_pressure : (t : Float) → Exactly17 Err (λ F. saturation_pressure_of F t)
  pub saturated_liquid : (t : Float) → Exactly17 Err (λ F. saturated_liquid_of F t)
  pub saturated_vapour : (t : Float) → Exactly17 Err (λ F. saturated_vapour_of F t)
  pub prepare : (t : Float) (c : ℕ) (g l : List Float) → Exactly17 Err (λ F. prepare_of F t c g l)
  pub plain : (t P : Float) (c : ℕ) (side : Side) → Exactly17 Err (λ F. plain_of F t P c side)
  pub quick : (t P : Float) (c : ℕ) (side : Side) (g l : List Float) → Exactly17 Err (λ F. quick_of F t P c side g l)
