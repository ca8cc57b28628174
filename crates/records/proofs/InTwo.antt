-- A run that is cut in two after whole records: the walk over it is the walk over its first part and then over its second, whose records
-- go on with the numbers.
use mathlib.Core.Path.{◌≡◌, refl, sym, ◌∙◌, ap}
use mathlib.Core.List.{List, ◌++◌, append_assoc, append-nil}
use Prim.Native.Nat.{ℕ, zero, suc, ◌+◌, ◌*◌, ◌≤◌, ◌<◌}
use native.Mathlib.Omega.{arith}
use lib.ListN.{length, length-append}
use Rattle.words.proofs.Pieces.{piece_before, piece_after}
use Rattle.records.specs.Run.{record_count, record_at, gathered}

-- two walks that give the same of each record
pub gathered_same : (f g : ℕ → List ℕ → List ℕ) (s : List ℕ) (k : ℕ) → ((j : ℕ) → j < k → f j (record_at s j) ≡ g j (record_at s j)) → gathered f s k ≡ gathered g s k
unfolding gathered
gathered_same f g s zero same = refl
gathered_same f g s (suc k) same = simp (gathered_same f g s k (λ j h. same j (omega arith)), same k (omega arith))

module _ (a b : List ℕ) (m : ℕ) (whole : length a ≡ 18 * m) where
  count_in_two : record_count (a ++ b) ≡ m + record_count b
  count_in_two = omega (arith, length-append a b)

  record_before : (k : ℕ) → k < m → record_at (a ++ b) k ≡ record_at a k
  unfolding record_at
  record_before k h = piece_before 18 a b k (omega arith)

  record_after : (k : ℕ) → record_at (a ++ b) (m + k) ≡ record_at b k
  unfolding record_at
  record_after k = piece_after 18 a b m whole k

  module _ (of : ℕ → List ℕ → List ℕ) where
    gathered_before : (k : ℕ) → k ≤ m → gathered of (a ++ b) k ≡ gathered of a k
    unfolding gathered
    gathered_before zero h = refl
    gathered_before (suc k) h = simp (gathered_before k (omega arith), record_before k (omega arith))

    gathered_after : (k : ℕ) → gathered of (a ++ b) (m + k) ≡ gathered of a m ++ gathered (λ j t. of (m + j) t) b k
    unfolding gathered
    gathered_after zero =
        let none : m + 0 ≡ m = omega arith in
        ap (gathered of (a ++ b)) none ∙ gathered_before m (omega arith) ∙ sym (append-nil (gathered of a m))
    gathered_after (suc k) =
        let next : m + suc k ≡ suc (m + k) = omega arith in
        ap (gathered of (a ++ b)) next
        ∙ simp (gathered_after k, record_after k)
        (append_assoc (gathered of a m) (gathered (λ j t. of (m + j) t) b k) (of (m + k) (record_at b k)))

    pub gathered_in_two : gathered of (a ++ b) (record_count (a ++ b)) ≡ gathered of a m ++ gathered (λ j t. of (m + j) t) b (record_count b)
    gathered_in_two = ap (gathered of (a ++ b)) count_in_two ∙ gathered_after (record_count b)
