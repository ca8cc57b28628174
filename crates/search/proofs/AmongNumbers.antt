-- Over any pressures that are all numbers up to the top: where the one at the top is above P and the one at density 0 is not, both
-- plain searches find a step; and from above 8 comes exactly if the one at the top is not above P. The visits meet an end of the
-- kind that they look for, and in the cell nothing refuses. The quick search does not meet 12, whatever its list holds.
use mathlib.Core.Path.{◌≡◌, refl, sym, ap, ◌∙◌, subst}
use mathlib.Core.Logic.{◌↔◌}
use mathlib.Core.Bool.{true, false, ◌&&◌}
use Prim.Native.Nat.{ℕ, zero, suc, ◌+◌, ◌-◌, ◌/◌, ◌≤◌, ◌<◌}
use native.Mathlib.Nat.{zero-add}
use native.Mathlib.Omega.{arith}
use lib.Dec.{eqb}
use lib.Ieee.{Float, lt, le, is_nan}
use Rattle.std.specs.Prelude.{Result, Ok, Err}
use Rattle.refusals.specs.declared.Refusal.{Refusal}
use Rattle.refusals.specs.declared.Refusal.TheVariants.{NoCell, NotEnclosed, NotNeighbours, WorkNotFinite}
use Rattle.search.specs.Plain.{end_step, at_ends, visit_up, cell_from_below, visit_down, cell_from_above}
use Rattle.search.specs.InCell.{halved, in_cell}
use Rattle.search.specs.Searches.{step_by, quick_step}
use Rattle.search.specs.Quick.{above, halved_places, enclosing, quick_cell}
use Rattle.refusals.proofs.Tests.{by}
use Rattle.refusals.proofs.Apart.{other_code}
use Rattle.search.proofs.GreatestAndLeast.{Numbers}
use Rattle.search.proofs.ListHalving.{halving_below}
use Rattle.search.proofs.Encloses.{quick_cell_encloses}
use Rattle.search.proofs.NeverNine.{found_not_refused, same_refusal, cell_refuses}

abbrev pub HasStep : Result ℕ Refusal → Type 0
HasStep x = (k : ℕ) × (x ≡ Ok k)

-- a place that is not refused is found
found_of_lem : (x : Result ℕ Refusal) → ((e : Refusal) → x ≡ Err e → ⊥) → HasStep x
found_of_lem (Ok k) n = (k, refl)
found_of_lem (Err e) n = absurd (n e refl)

-- ---- in the cell
halving_not_12 : (p : ℕ → Float) (P : Float) (n lower upper : ℕ) → lower ≤ upper → Numbers p upper → halved p P n lower upper ≡ Err WorkNotFinite → ⊥
unfolding halved
halving_not_12 p P zero lower upper h num r =
    by (eqb (upper - lower) 1)
    (λ t. found_not_refused lower WorkNotFinite (simp t at r))
    (λ t. other_code tt (same_refusal NotNeighbours WorkNotFinite (simp t at r)))
halving_not_12 p P (suc n) lower upper h num r =
    let m = (lower + upper) / 2 in
    let number = num m (omega arith) in
    by (le (p m) P)
    (λ s. halving_not_12 p P n m upper (omega arith) num (simp (number, s) at r))
    (λ s. halving_not_12 p P n lower m (omega arith) (λ i k. num i (omega arith)) (simp (number, s) at r))

module _ (p : ℕ → Float) (P : Float) (c : ℕ) (num : Numbers p (end_step c)) where
  pub ends_numbers : Numbers (at_ends p) c
  ends_numbers i h = num (end_step i) (omega arith)

  cell_found : (j : ℕ) → j < c → HasStep (in_cell p P (Ok j))
  cell_found j h = found_of_lem (in_cell p P (Ok j)) (λ e r.
      halving_not_12 p P 23 (end_step j) (end_step (j + 1)) (omega arith) (λ i k. num i (omega arith))
      (unfold in_cell in r ∙ ap Err (cell_refuses p P j e r)))

  -- so it refuses as the search for the cell does
  pub cell_of : (x : Result ℕ Refusal) (e : Refusal) → ((j : ℕ) → x ≡ Ok j → j < c) → in_cell p P x ≡ Err e → x ≡ Err e
  cell_of (Ok j) e inside r = let (k, f) = cell_found j (inside j refl) in absurd (found_not_refused k e (sym f ∙ r))
  cell_of (Err d) e inside r = unfold in_cell in r

  -- from a found cell to its step
  step_found : (x : Result ℕ Refusal) → ((j : ℕ) × (j < c) × (x ≡ Ok j)) → HasStep (in_cell p P x)
  step_found x (j, h, e) = subst (λ (y : Result ℕ Refusal). HasStep (in_cell p P y)) (sym e) (cell_found j h)

-- ---- the visits
up_found : (q : ℕ → Float) (P : Float) (n j : ℕ) → Numbers q (j + suc n) → lt P (q (j + suc n)) ≡ true → (k : ℕ) × (k < j + suc n) × (visit_up q P (suc n) j ≡ Ok k)
unfolding visit_up
up_found q P zero j num top =
    let number = num (j + 1) (omega arith) in
    (j, omega arith, simp (number, top))
up_found q P (suc n) j num top =
    let number = num (j + 1) (omega arith) in
    by (lt P (q (j + 1)))
    (λ s. (j, omega arith, simp (number, s)))
    (λ s.
    let same : j + 1 + suc n ≡ j + suc (suc n) = omega arith in
    let (k, h, e) = up_found q P n (j + 1) (λ i h. num i (omega arith)) (subst (λ (i : ℕ). lt P (q i) ≡ true) (sym same) top) in
    (k, omega arith, simp (number, s) e))

down_found : (q : ℕ → Float) (P : Float) (j : ℕ) → Numbers q j → le (q 0) P ≡ true → (k : ℕ) × (k < suc j) × (visit_down q P (suc j) ≡ Ok k)
unfolding visit_down
down_found q P zero num low = (0, omega arith, simp (num 0 (omega arith), low))
down_found q P (suc j) num low =
    let number = num (suc j) (omega arith) in
    by (le (q (suc j)) P)
    (λ s. (suc j, omega arith, simp (number, s)))
    (λ s.
    let (k, h, e) = down_found q P j (λ i h. num i (omega arith)) low in
    (k, omega arith, simp (number, s) e))

-- ---- the searches
module _ (p : ℕ → Float) (P : Float) where
  pub below_found : (c : ℕ) → 1 ≤ c → Numbers p (end_step c) → lt P (p (end_step c)) ≡ true → HasStep (step_by cell_from_below p P c)
  unfolding cell_from_below
  below_found zero h num top = absurd (omega arith)
  below_found (suc n) h num top =
      let (k, under, e) = up_found (at_ends p) P n 0 (λ i k. ends_numbers p P (suc n) num i (omega arith)) (rw zero-add top) in
      step_found p P (suc n) num _ (k, omega arith, e)

  top_cell : (c : ℕ) → 1 ≤ c → Numbers p (end_step c) → le (p 0) P ≡ true → le (p (end_step c)) P ≡ false → (j : ℕ) × (j < c) × (cell_from_above (at_ends p) P c ≡ Ok j)
  unfolding cell_from_above
  top_cell zero h num low top = absurd (omega arith)
  top_cell (suc n) h num low top =
      let (j, under, e) = down_found (at_ends p) P n (λ i k. ends_numbers p P (suc n) num i (omega arith)) low in
      (j, under, simp (num (end_step (suc n)) (omega arith), top) e)

  module _ (c : ℕ) (some : 1 ≤ c) (num : Numbers p (end_step c)) (low : le (p 0) P ≡ true) where
    pub above_found : le (p (end_step c)) P ≡ false → HasStep (step_by cell_from_above p P c)
    above_found top = step_found p P c num _ (top_cell c some num low top)

    -- from above the only refusal is 8, and it comes exactly if the pressure at the top is not above P
    pub above_refuses : (e : Refusal) → step_by cell_from_above p P c ≡ Err e → (e ≡ NoCell) × (le (p (end_step c)) P ≡ true)
    unfolding cell_from_above in_cell
    above_refuses e r =
        by (le (p (end_step c)) P)
        (λ top. (same_refusal e NoCell (sym (simp (num (end_step c) (omega arith), top) at r)), top))
        (λ top. let (k, f) = above_found top in absurd (found_not_refused k e (sym f ∙ r)))

    pub above_refuses_exactly : (step_by cell_from_above p P c ≡ Err NoCell) ↔ (le (p (end_step c)) P ≡ true)
    unfolding cell_from_above in_cell
    above_refuses_exactly = ((λ r. (above_refuses NoCell r).1), (λ top. simp (num (end_step c) (omega arith), top)))

-- ---- the quick search, whatever its list holds, does not meet 12
enclosing_not_12 : (q : ℕ → Float) (P : Float) (a : ℕ) → is_nan (q a) ≡ false → is_nan (q (a + 1)) ≡ false → enclosing q P a ≡ Err WorkNotFinite → ⊥
unfolding enclosing
enclosing_not_12 q P a low high r =
    by (le (q a) P && lt P (q (a + 1)))
    (λ w. found_not_refused a WorkNotFinite (simp (low, high, w) at r))
    (λ w. other_code tt (same_refusal NotEnclosed WorkNotFinite (simp (low, high, w) at r)))

module _ (f p : ℕ → Float) (P : Float) (c : ℕ) (some : 1 ≤ c) (num : Numbers p (end_step c)) where
  quick_cell_not_12 : quick_cell f (at_ends p) P c ≡ Err WorkNotFinite → ⊥
  unfolding quick_cell
  quick_cell_not_12 r =
      let a = halved_places (above P f) c 0 c in
      let under : a < c = halving_below (above P f) c 0 c some in
      by (lt P (f c))
      (λ w. enclosing_not_12 (at_ends p) P a (ends_numbers p P c num a (omega arith)) (ends_numbers p P c num (a + 1) (omega arith)) (simp w at r))
      (λ w. other_code tt (same_refusal NoCell WorkNotFinite (simp w at r)))

  pub quick_not_12 : quick_step f p P c ≡ Err WorkNotFinite → ⊥
  quick_not_12 r =
      quick_cell_not_12 (cell_of p P c num (quick_cell f (at_ends p) P c) WorkNotFinite (λ j e. (quick_cell_encloses (at_ends p) P c f some j e).below_top) r)
