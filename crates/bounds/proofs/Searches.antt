-- The theorems about the density searches without their provisos: at a permitted temperature every pressure of a step in range is a
-- number, so a preparation never fails in lists long enough, the plain search from below refuses exactly if no coarse cell rises
-- across P, and then with 8, its answers enclose P, and no search meets 12.
use mathlib.Core.Path.{◌≡◌, refl, ap, ◌∙◌, subst}
use mathlib.Core.Logic.{◌↔◌}
use mathlib.Core.List.{List}
use mathlib.Core.Bool.{true, false, not}
use Prim.Native.Nat.{ℕ, ◌^◌, ◌≤◌}
use native.Mathlib.Omega.{arith}
use borrow.Author.Tests.{leb-true}
use lib.Dec.{T, leb, lit<, leb→le}
use lib.ListN.{length}
use lib.Ieee.{Float, of_int, round, le, lt, is_nan}
use lib.Ieee.Fits.{and_i}
use lib.Ieee.Exact.{HasValue}
use lib.Ieee.Order.{le_of_values}
use lib.Ieee.Scale.{finite}
use Rattle.std.specs.Prelude.{Result, Ok, Err}
use Rattle.refusals.specs.Answer.{Permit}
use Rattle.refusals.specs.declared.Refusal.{Refusal}
use Rattle.refusals.specs.declared.Refusal.TheVariants.{NoCell, WorkNotFinite}
use Rattle.arithmetic.specs.Checked.{real, between}
use Rattle.arithmetic.proofs.Order.{le_of_not_lt, not_le_of_lt, le_lt_trans}
use Rattle.fluids.specs.declared.Fluid.{Fluid}
use Rattle.fluids.specs.Entry.{most_cells}
use Rattle.fluids.specs.Entries.{entry_of}
use Rattle.fluids.proofs.Sound.{sound}
use Rattle.kept.specs.Kept.{kept_of}
use Rattle.equation.specs.State.{pressure_at}
use Rattle.kept.proofs.Parts.{kept_fluid}
use Rattle.search.specs.Found.{state}
use Rattle.search.specs.Plain.{end_step, at_ends}
use Rattle.search.proofs.GreatestAndLeast.{Numbers}
use Rattle.search.specs.Enclosed.{NoCellEncloses}
use Rattle.search.proofs.ExactlyEight as any
use Rattle.refusals.proofs.Tests.{clash, and_passed}
use Rattle.search.specs.declared.Side.{Side}
use Rattle.search.specs.declared.Side.TheVariants.{FromBelow, FromAbove}
use Rattle.search.specs.declared.Word.{Word}
use Rattle.inputs.specs.Inputs.{temperature_test, top_test, room_of, prepare_tests, search_tests, search_permit, prepare_permit}
use Rattle.density.specs.Granted.{Question}
use Rattle.density.specs.State.{state_word_of, found_state_of}
use Rattle.steps.specs.Steps.{step_density_of, step_pressure_of}
use Rattle.steps.specs.Steps.{pressures_of}
use Rattle.density.specs.Calls.{plain_step_of, plain_of, quick_of}
use Rattle.search.specs.BySide.{entries_by}
use Rattle.search.specs.Searches.{quick_step}
use Rattle.preparation.specs.Prepare.{prepare_of}
use Rattle.steps.proofs.StepExact.{step_exact}
use Rattle.inputs.proofs.Passed.{search_passed, prepare_passed}
use Rattle.density.proofs.Permitted.{question}
use Rattle.density.proofs.NeverNine.{searched_refuses, step_refused}
use Rattle.steps.proofs.Twelve.{gives_twelve_is_not_finite}
use Rattle.density.specs.Answers.{Answers}
use Rattle.density.proofs.Encloses.{answered_at, plain_from_below_encloses, plain_from_above_encloses}
use Rattle.density.proofs.ExactlyEight.{refuses_exactly}
use Rattle.preparation.proofs.PreparationFails.{fails_with_twelve, fails_exactly}
use Rattle.intervals.proofs.Fractions.{holds, is_true}
use Rattle.ranges.proofs.Entry.{temperature_finite, finite_in_range}
use Rattle.refusals.proofs.InOrder.{AllPassed, never_denied}
use Rattle.refusals.proofs.Apart.{other_code}
use Rattle.ranges.proofs.Passes.{entry_passes, entry_rises}
use Rattle.search.proofs.AmongNumbers.{HasStep, below_found, above_found, above_refuses, above_refuses_exactly, quick_not_12}

module _ (F : Fluid) where
  -- ---- a step's density is in the range
  top_density : step_density_of (end_step (entry_of F).top_cells) ≡ (entry_of F).greatest_ρ
  unfolding step_density_of
  top_density = (sound F).top_density

  few_cells : (entry_of F).top_cells ≤ most_cells
  few_cells = leb→le (entry_of F).top_cells most_cells (sound F).cells

  zero_value : HasValue (real 0) false 0 1
  unfolding of_int round
  zero_value = (refl, refl)

  step_in_range : (k : ℕ) → k ≤ end_step (entry_of F).top_cells → T (between (real 0) (step_density_of k) (entry_of F).greatest_ρ)
  step_in_range k h =
      let top = end_step (entry_of F).top_cells in
      let v : HasValue (step_density_of k) false k (2 ^ 30) = step_exact k (omega (arith, h, few_cells)) in
      let w : HasValue (step_density_of top) false top (2 ^ 30) = step_exact top (omega (arith, few_cells)) in
      subst (λ (x : Float). T (between (real 0) (step_density_of k) x)) top_density
      (and_i (le (real 0) (step_density_of k)) (le (step_density_of k) (step_density_of top))
      (le_of_values (real 0) (step_density_of k) 0 1 k (2 ^ 30) (lit< tt) (lit< tt) zero_value v (omega arith))
      (le_of_values (step_density_of k) (step_density_of top) k (2 ^ 30) top (2 ^ 30) (lit< tt) (lit< tt) v w (omega (arith, h))))

  -- ---- so its pressure is a number
  module _ (t : Float) (ok : (temperature_test F t).0 ≡ true) where
    pub step_finite : (k : ℕ) → k ≤ end_step (entry_of F).top_cells → T (finite (pressures_of F t k))
    unfolding step_pressure_of
    step_finite k h =
        unfold pressure_at in
        (finite_in_range F (entry_passes F) t (step_density_of k) (holds (between (entry_of F).least_T t (entry_of F).greatest_T) ok) (step_in_range k h)).pressure

    pub step_number : (k : ℕ) → k ≤ end_step (entry_of F).top_cells → is_nan (pressures_of F t k) ≡ false
    step_number k h = gives_twelve_is_not_finite F t k ∙ ap not (is_true (finite (pressures_of F t k)) (step_finite k h))

    -- at density 0 too
    pub number_at_zero : is_nan (pressures_of F t 0) ≡ false
    number_at_zero = step_number 0 (omega arith)

    pub numbers : (c : ℕ) → (top_test F c).0 ≡ true → Numbers (pressures_of F t) (end_step c)
    numbers c few k h =
        let (some, under) = and_passed (leb 1 c) (leb c (entry_of F).top_cells) few in
        step_number k (omega (arith, h, leb-true c (entry_of F).top_cells under))

    end_numbers : (c : ℕ) → (top_test F c).0 ≡ true → Numbers (at_ends (pressures_of F t)) c
    end_numbers c few j h = numbers c few (end_step j) (omega arith)

  -- ---- a preparation never fails at a permitted T and c in lists long enough
  pub prepared_always : (t : Float) (c : ℕ) (g l : List Float) → prepare_permit F t c (room_of c (length g) (length l)) ≡ Ok tt → prepare_of F t c g l ≡ Ok tt
  prepared_always t c g l ok =
      ready (prepare_of F t c g l)
      (λ e r.
      let twelve = fails_with_twelve F t c g l ok e r in
      let (j, h, nan-there) = (fails_exactly F t c g l ok).0 (r ∙ ap Err twelve) in
      clash (is_nan (pressures_of F t (end_step j))) nan-there (end_numbers t passed.1.0 c passed.1.1.0 j h))
    where
      passed : AllPassed (prepare_tests F t c (room_of c (length g) (length l)))
      passed = prepare_passed F t c (room_of c (length g) (length l)) ok

      ready : (x : Permit) → ((e : Refusal) → x ≡ Err e → ⊥) → x ≡ Ok tt
      ready (Ok _) n = refl
      ready (Err e) n = absurd (n e refl)

  -- ---- the plain search from below, at a permitted T, P and c
  module _ (t P : Float) (c : ℕ) (ok : search_permit F t P c true ≡ Ok tt) where
    all_numbers : Numbers (pressures_of F t) (end_step c)
    all_numbers = numbers t (search_passed F t P c true ok).1.0 c (search_passed F t P c true ok).1.1.1.0

    -- it refuses exactly if no coarse cell j has p(j) ≤ P < p(j+1)
    from_below_exactly : (plain_of F t P c FromBelow ≡ Err NoCell) ↔ NoCellEncloses (at_ends (pressures_of F t)) P c
    from_below_exactly = refuses_exactly F t P c ok all_numbers

  -- ---- a search at permitted inputs, by what its place is
  state_found : (t : Float) (x : Result ℕ Refusal) → HasStep x → (density : Float) × (word : Word) × (found_state_of F t x ≡ Ok (state density word))
  unfolding found_state_of
  state_found t x (k, e) = (step_density_of k, state_word_of F t (step_density_of k), rw e)

  -- the inputs refuse with none but 2, 3, 5, 6 and 7, so 8 comes from permitted inputs alone
  eight_permitted : (t P : Float) (c : ℕ) (side : Side) → plain_of F t P c side ≡ Err NoCell → search_permit F t P c true ≡ Ok tt
  unfolding plain_of search_permit
  eight_permitted t P c side r =
      searched_refuses F (search_permit F t P c true) t (plain_step_of side (pressures_of F t) P c) NoCell r
      (λ i. absurd (never_denied NoCell (search_tests F t P c true) tt i)) (λ ok x. ok)

  module _ (t P : Float) (c : ℕ) (ok : search_permit F t P c true ≡ Ok tt) where
    asked : Question (pressures_of F t) P c
    asked = question F t P c true ok (kept_of F t) (kept_fluid F t)

    -- at density 0 the pressure is not above P
    starts_low : le (pressures_of F t 0) P ≡ true
    starts_low = le_of_not_lt (pressures_of F t 0) P (number_at_zero t (search_passed F t P c true ok).1.0) asked.number asked.start

    place_refuses : (side : Side) (e : Refusal) → plain_step_of side (pressures_of F t) P c ≡ Err e → e ≡ NoCell
    place_refuses FromBelow e r = any.refuses_with_eight (pressures_of F t) P c (all_numbers t P c ok) e r
    place_refuses FromAbove e r = (above_refuses (pressures_of F t) P c asked.some_cell (all_numbers t P c ok) starts_low e r).0

    -- it refuses with 8 only
    pub only_eight : (side : Side) (e : Refusal) → plain_of F t P c side ≡ Err e → e ≡ NoCell
    only_eight side e r = place_refuses side e (step_refused F t P c side e ok r)

    -- from above exactly if the pressure at the top is not above P
    from_above_exactly : (plain_of F t P c FromAbove ≡ Err NoCell) ↔ (le (pressures_of F t (end_step c)) P ≡ true)
    unfolding plain_of found_state_of
    from_above_exactly =
        let (one, other) = above_refuses_exactly (pressures_of F t) P c asked.some_cell (all_numbers t P c ok) starts_low in (
          (λ r. one (step_refused F t P c FromAbove NoCell ok r)),
          (λ top. rw (ok, other top)),
        )

    -- where the pressure at the top is above P there is a density, from either side
    place_found : lt P (pressures_of F t (end_step c)) ≡ true → (side : Side) → HasStep (plain_step_of side (pressures_of F t) P c)
    place_found top FromBelow = below_found (pressures_of F t) P c asked.some_cell (all_numbers t P c ok) top
    place_found top FromAbove =
        above_found (pressures_of F t) P c asked.some_cell (all_numbers t P c ok) starts_low
        (not_le_of_lt (pressures_of F t (end_step c)) P (all_numbers t P c ok (end_step c) (omega arith)) asked.number top)

    pub density_found : lt P (pressures_of F t (end_step c)) ≡ true → (side : Side) → (density : Float) × (word : Word) × (plain_of F t P c side ≡ Ok (state density word))
    unfolding plain_of
    density_found top side = rw ok (state_found t (plain_step_of side (pressures_of F t) P c) (place_found top side))

  -- ---- whatever the numbers are
  module _ (t P : Float) (c : ℕ) (side : Side) where
    -- no plain search meets 12
    pub plain_never_12 : plain_of F t P c side ≡ Err WorkNotFinite → ⊥
    unfolding plain_of search_permit
    plain_never_12 r =
        searched_refuses F (search_permit F t P c true) t (plain_step_of side (pressures_of F t) P c) WorkNotFinite r
        (never_denied WorkNotFinite (search_tests F t P c true) tt) (λ ok x. other_code tt (place_refuses t P c ok side WorkNotFinite x))

    -- nor does the quick one, whatever its lists hold
    pub quick_never_12 : (g l : List Float) → quick_of F t P c side g l ≡ Err WorkNotFinite → ⊥
    unfolding quick_of search_permit
    quick_never_12 g l r =
        let room = room_of c (length g) (length l) in
        searched_refuses F (search_permit F t P c room) t (quick_step (entries_by side g l) (pressures_of F t) P c) WorkNotFinite r
        (never_denied WorkNotFinite (search_tests F t P c room) tt)
        (λ ok x.
        let passed = search_passed F t P c room ok in
        quick_not_12 (entries_by side g l) (pressures_of F t) P c (question F t P c room ok (kept_of F t) (kept_fluid F t)).some_cell (numbers t passed.1.0 c passed.1.1.1.0) x)

  -- ---- an answered density encloses P, with no proviso for the side from below
  pub plain_encloses : (t P : Float) (c : ℕ) (side : Side) (density : Float) (word : Word) → plain_of F t P c side ≡ Ok (state density word) → Answers F t P c density word
  unfolding plain_of
  plain_encloses t P c FromBelow density word e =
      let (ok, at) = answered_at F (search_permit F t P c true) t (plain_step_of FromBelow (pressures_of F t) P c) density word e in
      plain_from_below_encloses F t P c density word (number_at_zero t (search_passed F t P c true ok).1.0) e
  plain_encloses t P c FromAbove density word e = plain_from_above_encloses F t P c density word e

  -- ---- no permitted question is left without a density: up to the fluid's own top every permitted T and P gets one, from below and from above
  top_pressure : (t : Float) → (temperature_test F t).0 ≡ true → lt (entry_of F).greatest_P (pressures_of F t (end_step (entry_of F).top_cells)) ≡ true
  unfolding step_pressure_of
  top_pressure t ok =
      let (low, high) = and_passed (le (entry_of F).least_T t) (le t (entry_of F).greatest_T) ok in
      rw top_density
      (unfold pressure_at in
      entry_rises F t (temperature_finite F (entry_passes F) t (real 0) (holds (between (entry_of F).least_T t (entry_of F).greatest_T) ok))
      (holds (le (entry_of F).least_T t) low) (holds (le t (entry_of F).greatest_T) high))

  pub every_question_answered : (t P : Float) (side : Side) → search_permit F t P (entry_of F).top_cells true ≡ Ok tt → (density : Float) × (word : Word) × (plain_of F t P (entry_of F).top_cells side ≡ Ok (state density word))
  every_question_answered t P side ok =
      let passed = search_passed F t P (entry_of F).top_cells true ok in
      let (low, high) = and_passed (le (entry_of F).least_P P) (le P (entry_of F).greatest_P) passed.1.1.0 in
      density_found t P (entry_of F).top_cells ok (le_lt_trans P (entry_of F).greatest_P (pressures_of F t (end_step (entry_of F).top_cells)) high (top_pressure t passed.1.0)) side

  -- ---- 8, exactly
  pub eight_from_below : (t P : Float) (c : ℕ) → (plain_of F t P c FromBelow ≡ Err NoCell) ↔ ((search_permit F t P c true ≡ Ok tt) × NoCellEncloses (at_ends (pressures_of F t)) P c)
  eight_from_below t P c = (
    (λ r. let ok = eight_permitted t P c FromBelow r in (ok, (from_below_exactly t P c ok).0 r)),
    (λ (ok, none). (from_below_exactly t P c ok).1 none),
  )

  pub eight_from_above : (t P : Float) (c : ℕ) → (plain_of F t P c FromAbove ≡ Err NoCell) ↔ ((search_permit F t P c true ≡ Ok tt) × (le (pressures_of F t (end_step c)) P ≡ true))
  eight_from_above t P c = (
    (λ r. let ok = eight_permitted t P c FromAbove r in (ok, (from_above_exactly t P c ok).0 r)),
    (λ (ok, top). (from_above_exactly t P c ok).1 top),
  )
