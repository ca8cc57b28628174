-- Where the plain visits and the halvings stop: at a cell, or a step, whose ends have what is kept at each turn, whatever that is.
use mathlib.Core.Path.{◌≡◌, sym, subst}
use mathlib.Core.Bool.{true, false}
use Prim.Native.Nat.{ℕ, zero, suc, ◌+◌, ◌-◌, ◌/◌, ◌≤◌, ◌<◌}
use native.Mathlib.Omega.{arith}
use borrow.Author.Tests.{eqb-true}
use lib.Dec.{eqb}
use lib.Ieee.{Float, lt, le, is_nan}
use Rattle.std.specs.Prelude.{Ok}
use Rattle.refusals.specs.declared.Refusal.TheVariants.{NoCell, NotNeighbours, WorkNotFinite}
use Rattle.refusals.proofs.Tests.{by}
use Rattle.search.specs.Plain.{visit_up, visit_down}
use Rattle.search.specs.InCell.{halved}
use Rattle.search.proofs.NeverNine.{found_not_refused, same_at}

-- the place k is under top, and its two ends have Low and High
abbrev pub Stops : (Float → Type 0) → (Float → Type 0) → (ℕ → Float) → ℕ → ℕ → Type 0
Stops Low High q top k = (k < top) × Low (q k) × High (q (k + 1))

under : (Low High : Float → Type 0) (q : ℕ → Float) (a b k : ℕ) → a ≤ b → Stops Low High q a k → Stops Low High q b k
under Low High q a b k h (inside, low, high) = (omega arith, low, high)

module _ (q : ℕ → Float) (P : Float) where
  -- upwards: a number that is not above P is passed
  pub up_stops : (Low : Float → Type 0) → ((x : Float) → is_nan x ≡ false → lt P x ≡ false → Low x) → (n j k : ℕ) → Low (q j) → visit_up q P n j ≡ Ok k → Stops Low (λ x. lt P x ≡ true) q (j + n) k
  unfolding visit_up
  up_stops Low passed zero j k low r = absurd (found_not_refused k NoCell (sym r))
  up_stops Low passed (suc n) j k low r =
      by (is_nan (q (j + 1)))
      (λ t. absurd (found_not_refused k WorkNotFinite (sym (simp t at r))))
      (λ t. by (lt P (q (j + 1)))
      (λ s. subst (Stops Low (λ x. lt P x ≡ true) q (j + suc n)) (same_at j k (simp (t, s) at r)) (omega arith, low, s))
      (λ s. under Low (λ x. lt P x ≡ true) q (j + 1 + n) (j + suc n) k (omega arith) (up_stops Low passed n (j + 1) k (passed (q (j + 1)) t s) (simp (t, s) at r))))

  -- downwards: a number that is not ≤ P is passed
  pub down_stops : (High : Float → Type 0) → ((x : Float) → is_nan x ≡ false → le x P ≡ false → High x) → (j k : ℕ) → High (q j) → visit_down q P j ≡ Ok k → Stops (λ x. le x P ≡ true) High q j k
  unfolding visit_down
  down_stops High passed zero k high r = absurd (found_not_refused k NoCell (sym r))
  down_stops High passed (suc j) k high r =
      by (is_nan (q j))
      (λ t. absurd (found_not_refused k WorkNotFinite (sym (simp t at r))))
      (λ t. by (le (q j) P)
      (λ s. subst (Stops (λ x. le x P ≡ true) High q (suc j)) (same_at j k (simp (t, s) at r)) (omega arith, s, subst (λ (m : ℕ). High (q m)) (omega arith) high))
      (λ s. under (λ x. le x P ≡ true) High q j (suc j) k (omega arith) (down_stops High passed j k (passed (q j) t s) (simp (t, s) at r))))

  -- halving: a middle is the lower end where it is ≤ P, else the upper
  pub halving_stops :
      (Low High : Float → Type 0) → ((x : Float) → le x P ≡ true → Low x) → ((x : Float) → is_nan x ≡ false → le x P ≡ false → High x) →
      (n lower upper k : ℕ) → lower ≤ upper → Low (q lower) → High (q upper) → halved q P n lower upper ≡ Ok k → Stops Low High q upper k
  unfolding halved
  halving_stops Low High below above zero lower upper k h low high r =
      by (eqb (upper - lower) 1)
      (λ t.
      let apart = eqb-true (upper - lower) 1 t in
      subst (Stops Low High q upper) (same_at lower k (simp t at r)) (omega arith, low, subst (λ (m : ℕ). High (q m)) (omega arith) high))
      (λ t. absurd (found_not_refused k NotNeighbours (sym (simp t at r))))
  halving_stops Low High below above (suc n) lower upper k h low high r =
      let m = (lower + upper) / 2 in
      by (is_nan (q m))
      (λ t. absurd (found_not_refused k WorkNotFinite (sym (simp t at r))))
      (λ t. by (le (q m) P)
      (λ s. halving_stops Low High below above n m upper k (omega arith) (below (q m) s) high (simp (t, s) at r))
      (λ s. under Low High q m upper k (omega arith) (halving_stops Low High below above n lower m k (omega arith) low (above (q m) t s) (simp (t, s) at r))))
