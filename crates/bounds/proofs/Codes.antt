-- The code of each call is one of few, whatever its inputs are: a permit denies with one of its tests' refusals, and where it is granted the
-- call answers, or the plain search ends with 8.
use mathlib.Core.Path.{◌≡◌, refl, sym, ap, subst}
use mathlib.Core.Logic.{inl, inr}
use mathlib.Core.Bool.{Bool, true}
use mathlib.Core.List.{List, [], ◌∷◌, ◌++◌}
use Prim.Native.Nat.{ℕ}
use lib.Ieee.{Float}
use lib.Ieee.Scale.{finite}
use lib.Dec.{T}
use lib.ListN.{length}
use Rattle.std.specs.Prelude.{Result, Ok, Err}
use Rattle.refusals.specs.declared.Refusal.{Refusal}
use Rattle.refusals.specs.declared.Refusal.TheVariants.{NoCell}
use Rattle.refusals.specs.Answer.{Permit}
use Rattle.refusals.specs.Code.{answer_code_of}
use Rattle.refusals.specs.Order.{first_of, permitted}
use Rattle.arithmetic.specs.Answered.{answer_from}
use Rattle.fluids.specs.declared.Fluid.{Fluid}
use Rattle.fluids.specs.Entries.{entry_of}
use Rattle.properties.specs.Calls.{pressure_of, worked_density, energy_of, enthalpy_of, isochoric_of}
use Rattle.equation.specs.State.{state_at, pressure_value}
use Rattle.values.specs.Values.{energy_value, enthalpy_value, isochoric_value}
use Rattle.saturation.specs.Estimates.{pressure_estimate, liquid_estimate, vapour_estimate}
use Rattle.saturation.specs.Calls.{saturation_pressure_of, saturated_liquid_of, saturated_vapour_of}
use Rattle.search.specs.declared.Side.{Side}
use Rattle.density.specs.Calls.{plain_of}
use Rattle.preparation.specs.Prepare.{prepare_of}
use Rattle.search.specs.declared.Found.{Found}
use Rattle.refusals.specs.Code.{OneOf}
use Rattle.refusals.proofs.InOrder.{codes_in, denied_code, by_permit}
use Rattle.inputs.specs.Inputs.{top_test, room_of, state_tests, saturation_tests, asked_tests, prepare_tests, state_permit, saturation_permit, search_permit, prepare_permit}
use Rattle.bounds.specs.NoAnswer.{Codes}
use Rattle.inputs.proofs.Passed.{top_permitted}
use Rattle.bounds.proofs.NeverTwelve.{finite_where_granted}
use Rattle.bounds.proofs.Estimated.{granted_finite}
use Rattle.bounds.proofs.Searches.{prepared_always, only_eight, every_question_answered}
use Rattle.bounds.proofs.Permits.{answered}

-- where a granted permit means a number
permitted_code : (codes : List ℕ) (tests : List (Bool × Refusal)) (v : Float) → T (codes_in codes tests) → (first_of tests ≡ Ok tt → T (finite v)) → OneOf (answer_code_of (permitted (first_of tests) (answer_from v))) (0 ∷ codes)
permitted_code codes tests v all number =
    by_permit (first_of tests)
    (λ g. inl (ap answer_code_of (answered (first_of tests) v g (number g))))
    (λ r d. inr (subst (λ (p : Permit). OneOf (answer_code_of (permitted p (answer_from v))) codes) (sym d) (denied_code codes tests all r d)))

-- ---- the properties
module _ (F : Fluid) (t ρ : Float) where
  state_code : (v : Float) → (state_permit F t ρ ≡ Ok tt → T (finite v)) → OneOf (answer_code_of (permitted (state_permit F t ρ) (answer_from v))) (0 ∷ 2 ∷ 3 ∷ 4 ∷ [])
  unfolding state_permit
  state_code v number = permitted_code (2 ∷ 3 ∷ 4 ∷ []) (state_tests F t ρ) v tt number

  pressure_code : OneOf (answer_code_of (pressure_of F t ρ)) (0 ∷ 2 ∷ 3 ∷ 4 ∷ [])
  unfolding pressure_of
  pressure_code = state_code (pressure_value (state_at F t (worked_density ρ))) (λ g. (finite_where_granted F t ρ g).pressure)

  energy_code : OneOf (answer_code_of (energy_of F t ρ)) (0 ∷ 2 ∷ 3 ∷ 4 ∷ [])
  unfolding energy_of
  energy_code = state_code (energy_value (state_at F t (worked_density ρ))) (λ g. (finite_where_granted F t ρ g).energy)

  enthalpy_code : OneOf (answer_code_of (enthalpy_of F t ρ)) (0 ∷ 2 ∷ 3 ∷ 4 ∷ [])
  unfolding enthalpy_of
  enthalpy_code = state_code (enthalpy_value (state_at F t (worked_density ρ))) (λ g. (finite_where_granted F t ρ g).enthalpy)

  isochoric_code : OneOf (answer_code_of (isochoric_of F t ρ)) (0 ∷ 2 ∷ 3 ∷ 4 ∷ [])
  unfolding isochoric_of
  isochoric_code = state_code (isochoric_value (state_at F t (worked_density ρ))) (λ g. (finite_where_granted F t ρ g).isochoric)

-- ---- the estimates
module _ (F : Fluid) (t : Float) where
  estimate_code : (v : Float) → (saturation_permit F t ≡ Ok tt → T (finite v)) → OneOf (answer_code_of (permitted (saturation_permit F t) (answer_from v))) (0 ∷ 2 ∷ 3 ∷ 13 ∷ [])
  unfolding saturation_permit
  estimate_code v number = permitted_code (2 ∷ 3 ∷ 13 ∷ []) (saturation_tests F t) v tt number

  saturation_pressure_code : OneOf (answer_code_of (saturation_pressure_of F t)) (0 ∷ 2 ∷ 3 ∷ 13 ∷ [])
  unfolding saturation_pressure_of
  saturation_pressure_code = estimate_code (pressure_estimate F t) (λ g. (granted_finite F t g).0)

  saturated_liquid_code : OneOf (answer_code_of (saturated_liquid_of F t)) (0 ∷ 2 ∷ 3 ∷ 13 ∷ [])
  unfolding saturated_liquid_of
  saturated_liquid_code = estimate_code (liquid_estimate F t) (λ g. (granted_finite F t g).1)

  saturated_vapour_code : OneOf (answer_code_of (saturated_vapour_of F t)) (0 ∷ 2 ∷ 3 ∷ 13 ∷ [])
  unfolding saturated_vapour_of
  saturated_vapour_code = estimate_code (vapour_estimate F t) (λ g. (granted_finite F t g).2)

-- ---- the preparation and the plain search
prepare_code : (F : Fluid) (t : Float) (c : ℕ) (g l : List Float) → OneOf (answer_code_of (prepare_of F t c g l)) (0 ∷ 2 ∷ 3 ∷ 6 ∷ 7 ∷ [])
unfolding prepare_of prepare_permit
prepare_code F t c g l =
    by_permit (prepare_permit F t c (room_of c (length g) (length l)))
    (λ ok. inl (ap answer_code_of (prepared_always F t c g l ok)))
    (λ r d. rw d (inr (denied_code (2 ∷ 3 ∷ 6 ∷ 7 ∷ []) (prepare_tests F t c (room_of c (length g) (length l))) tt r d)))

found_code : (f : Result Found Refusal) → ((e : Refusal) → f ≡ Err e → e ≡ NoCell) → OneOf (answer_code_of f) (0 ∷ 2 ∷ 3 ∷ 5 ∷ 6 ∷ 8 ∷ [])
found_code (Ok found) only = inl refl
found_code (Err e) only = rw (only e refl) (inr (inr (inr (inr (inr (inl refl))))))

plain_code : (F : Fluid) (t P : Float) (c : ℕ) (side : Side) → OneOf (answer_code_of (plain_of F t P c side)) (0 ∷ 2 ∷ 3 ∷ 5 ∷ 6 ∷ 8 ∷ [])
plain_code F t P c side =
    by_permit (search_permit F t P c true)
    (λ ok. found_code (plain_of F t P c side) (only_eight F t P c ok side))
    (λ r d. unfold plain_of in rw d (inr (denied_code (2 ∷ 3 ∷ 5 ∷ 6 ∷ 8 ∷ []) (asked_tests F t P ++ (top_test F c ∷ [])) tt r (unfold search_permit in d))))

top_code : (F : Fluid) (t P : Float) (side : Side) → OneOf (answer_code_of (plain_of F t P (entry_of F).top_cells side)) (0 ∷ 2 ∷ 3 ∷ 5 ∷ [])
unfolding plain_of search_permit
top_code F t P side =
    by_permit (search_permit F t P (entry_of F).top_cells true)
    (λ ok. let (density, word, e) = every_question_answered F t P side ok in inl (ap answer_code_of e))
    (λ r d. rw d (inr (denied_code (2 ∷ 3 ∷ 5 ∷ []) (asked_tests F t P) tt r (rw (top_permitted F) at d))))

pub codes : (F : Fluid) → Codes F
codes F = record {
  pressure = pressure_code F;
  energy = energy_code F;
  enthalpy = enthalpy_code F;
  isochoric = isochoric_code F;
  saturation_pressure = saturation_pressure_code F;
  saturated_liquid = saturated_liquid_code F;
  saturated_vapour = saturated_vapour_code F;
  prepare = prepare_code F;
  plain = plain_code F;
  plain_to_the_top = top_code F;
}
