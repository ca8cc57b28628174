-- The probe's calls of numbers alone. A call's number is 1 to 3, the elementary functions; or else the call n % 100 of the fluid n / 100: 14 where there
-- is no such call, then 17 where there is no such fluid.
use Rattle.std.specs.Prelude.{cond, List, [], ◌∷◌, ℕ, ◌-◌, ◌/◌, ◌%◌, ◌^◌, min, eqb, Float, Result, Err}
use Rattle.refusals.specs.declared.Refusal.{Refusal}
use Rattle.refusals.specs.declared.Refusal.TheVariants.{UnknownMark}
use Rattle.refusals.specs.Answer.{Answer}
use Rattle.elementary.specs.Calls.{exponential_of, logarithm_of, square_root_of}
use Rattle.fluids.specs.declared.Fluid.{Fluid}
use Rattle.fluids.specs.Entries.{entry_of, fluid_numbered}
use Rattle.inputs.specs.Numbered.{by_name}
use Rattle.properties.specs.Calls.{pressure_of, energy_of, enthalpy_of, isochoric_of, entropy_of, gibbs_of, helmholtz_of, isobaric_of, sound_speed_of}
use Rattle.saturation.specs.Calls.{saturation_pressure_of, saturated_liquid_of, saturated_vapour_of}
use Rattle.search.specs.declared.Side.{Side}
use Rattle.search.specs.declared.Side.TheVariants.{FromBelow, FromAbove}
use Rattle.density.specs.Calls.{plain_of}
use Rattle.outcomes.specs.Codes.{found_answer_of}

-- ---- searches up to the fluid's own top

-- the cells up to it; none where no fluid is named
abbrev pub own_top : Result Fluid Refusal → ℕ
own_top named = by_name (λ (r : Refusal). 0) named (λ F. (entry_of F).top_cells)

-- the density alone, of the plain search; 17 where no fluid is named
abbrev pub plain_answer : Result Fluid Refusal → Side → Float → Float → Answer
plain_answer named side T P = by_name Err named (λ F. found_answer_of (plain_of F T P (entry_of F).top_cells side))

-- ---- the calls of what a number names, at the numbers x and y; a call of one number does not look at y

abbrev pub search_calls : Result Fluid Refusal → Float → Float → List (ℕ × Answer)
search_calls named x y =
    (30, plain_answer named FromBelow x y)
    ∷ (31, plain_answer named FromAbove x y)
    ∷ []

abbrev pub estimate_calls : Result Fluid Refusal → Float → Float → List (ℕ × Answer)
estimate_calls named x y =
    (20, by_name Err named (λ F. saturation_pressure_of F x))
    ∷ (21, by_name Err named (λ F. saturated_liquid_of F x))
    ∷ (22, by_name Err named (λ F. saturated_vapour_of F x))
    ∷ search_calls named x y

abbrev pub property_calls : Result Fluid Refusal → Float → Float → List (ℕ × Answer)
property_calls named x y =
    (10, by_name Err named (λ F. pressure_of F x y))
    ∷ (11, by_name Err named (λ F. energy_of F x y))
    ∷ (12, by_name Err named (λ F. enthalpy_of F x y))
    ∷ (13, by_name Err named (λ F. isochoric_of F x y))
    ∷ (14, by_name Err named (λ F. entropy_of F x y))
    ∷ (15, by_name Err named (λ F. gibbs_of F x y))
    ∷ (16, by_name Err named (λ F. helmholtz_of F x y))
    ∷ (17, by_name Err named (λ F. isobaric_of F x y))
    ∷ (18, by_name Err named (λ F. sound_speed_of F x y))
    ∷ estimate_calls named x y

-- those of no fluid
abbrev pub elementary_calls : Float → List (ℕ × Answer)
elementary_calls x = (1, exponential_of x) ∷ (2, logarithm_of x) ∷ (3, square_root_of x) ∷ []

-- ---- the call of a number

-- what the list has under the number n, and `other` where it has nothing
unfoldable pub look_up : {A : Type 0} → ℕ → List (ℕ × A) → A → A
look_up n [] other = other
look_up n (row ∷ rows) other = cond (eqb n row.0) row.1 (look_up n rows other)

-- the fluid's number, in 32 bits: what does not fit becomes the greatest, which names no fluid either
abbrev pub fluid_number : ℕ → ℕ
fluid_number call = min (call / 100) (2 ^ 32 - 1)

-- the call is looked up before its fluid is: 14, then 17
unfoldable pub answer_of_numbers : ℕ → Float → Float → Answer
answer_of_numbers call x y =
    look_up call (elementary_calls x)
    (look_up (call % 100) (property_calls (fluid_numbered (call / 100)) x y) (Err UnknownMark))
