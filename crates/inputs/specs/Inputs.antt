-- 01, "Order where several apply": the tests of the inputs of each call, with their refusals, in the order 2, 3, 4, 5, 6, 7, 13, 10. A
-- range is tested as lo ≤ x ≤ hi, which NaN fails.
use Rattle.std.specs.Prelude.{Bool, not, ◌&&◌, List, [], ◌∷◌, ◌++◌, ℕ, leb, ltb, Float}
use Rattle.std.specs.Float.Ieee.{le, eq}
use Rattle.std.specs.Float.Ieee.Scale.{finite}
use Rattle.refusals.specs.declared.Refusal.{Refusal}
use Rattle.refusals.specs.declared.Refusal.TheVariants.{InputNotFinite, TemperatureOutside, DensityOutside, PressureOutside, TopOutside, TooShort, AboveCritical, AtZeroDensity}
use Rattle.refusals.specs.Answer.{Permit}
use Rattle.refusals.specs.Order.{first_of}
use Rattle.arithmetic.specs.Checked.{real, between}
use Rattle.fluids.specs.declared.Fluid.{Fluid}
use Rattle.fluids.specs.Entries.{entry_of}

-- ---- single tests

-- both lent lists have c + 1 places
unfoldable pub room_of : ℕ → ℕ → ℕ → Bool
room_of c n m = ltb c n && ltb c m

module _ (F : Fluid) where
  abbrev pub temperature_test : Float → Bool × Refusal
  temperature_test T = (between (entry_of F).least_T T (entry_of F).greatest_T, TemperatureOutside)

  abbrev pub density_test : Float → Bool × Refusal
  density_test ρ = (between (real 0) ρ (entry_of F).greatest_ρ, DensityOutside)

  abbrev pub pressure_test : Float → Bool × Refusal
  pressure_test P = (between (entry_of F).least_P P (entry_of F).greatest_P, PressureOutside)

  -- the top cell count c in 1 .. the fluid's top
  abbrev pub top_test : ℕ → Bool × Refusal
  top_test c = (leb 1 c && leb c (entry_of F).top_cells, TopOutside)

  -- 2 and 3, with which every call begins; whether its numbers are finite
  abbrev pub beginning : Bool → Float → List (Bool × Refusal)
  beginning numbers T = (numbers, InputNotFinite) ∷ temperature_test T ∷ []

  abbrev pub temperature_permit : Bool → Float → Permit
  temperature_permit numbers T = first_of (beginning numbers T)

-- ---- the tests of each call

module _ (F : Fluid) (T : Float) where
  -- a state: 2, 3, 4
  abbrev pub state_tests : Float → List (Bool × Refusal)
  state_tests ρ = beginning F (finite T && finite ρ) T ++ (density_test F ρ ∷ [])

  -- entropy, Gibbs and Helmholtz energy: 10 as well
  abbrev pub potential_tests : Float → List (Bool × Refusal)
  potential_tests ρ = state_tests ρ ++ ((not (eq ρ (real 0)), AtZeroDensity) ∷ [])

  -- a saturation estimate: 2, 3, 13
  abbrev pub saturation_tests : List (Bool × Refusal)
  saturation_tests = beginning F (finite T) T ++ ((le T (entry_of F).Tc, AboveCritical) ∷ [])

  -- a liquid's and a vapour's density beside T: 2 of any of the three, 3, 4 of either
  abbrev pub pair_tests : Float → Float → List (Bool × Refusal)
  pair_tests l v = beginning F (finite T && (finite l && finite v)) T ++ (((density_test F l).0 && (density_test F v).0, DensityOutside) ∷ [])

  -- T alone, with an output: 2, 3, 7
  abbrev pub output_tests : Bool → List (Bool × Refusal)
  output_tests room = beginning F (finite T) T ++ ((room, TooShort) ∷ [])

  -- a pressure that is asked for: 2, 3, 5
  abbrev pub asked_tests : Float → List (Bool × Refusal)
  asked_tests P = beginning F (finite T && finite P) T ++ (pressure_test F P ∷ [])

  -- a search for it: 6 and 7 as well; the plain one has room always
  abbrev pub search_tests : Float → ℕ → Bool → List (Bool × Refusal)
  search_tests P c room = asked_tests P ++ (top_test F c ∷ (room, TooShort) ∷ [])

  -- a preparation, which has no P: 2, 3, 6, 7
  abbrev pub prepare_tests : ℕ → Bool → List (Bool × Refusal)
  prepare_tests c room = beginning F (finite T) T ++ (top_test F c ∷ (room, TooShort) ∷ [])

  -- ---- whether the inputs let a call go on, or its first refusal

  unfoldable pub state_permit : Float → Permit
  state_permit ρ = first_of (state_tests ρ)

  unfoldable pub potential_permit : Float → Permit
  potential_permit ρ = first_of (potential_tests ρ)

  unfoldable pub saturation_permit : Permit
  saturation_permit = first_of saturation_tests

  unfoldable pub pair_permit : Float → Float → Permit
  pair_permit l v = first_of (pair_tests l v)

  unfoldable pub output_permit : Bool → Permit
  output_permit room = first_of (output_tests room)

  unfoldable pub asked_permit : Float → Permit
  asked_permit P = first_of (asked_tests P)

  unfoldable pub search_permit : Float → ℕ → Bool → Permit
  search_permit P c room = first_of (search_tests P c room)

  unfoldable pub prepare_permit : ℕ → Bool → Permit
  prepare_permit c room = first_of (prepare_tests c room)
