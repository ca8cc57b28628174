-- Two runs one after the other, the first of whole records: codes and outputs are together those of the whole, since each record has its own
-- eight bytes in either.
use mathlib.Core.Path.{◌≡◌, ◌∙◌, ap}
use mathlib.Core.List.{List, [], ◌∷◌, ◌++◌}
use Prim.Native.Nat.{ℕ, ◌+◌, ◌*◌, ◌<◌}
use native.Mathlib.Omega.{arith}
use lib.ListN.{length}
use Rattle.words.proofs.Pieces.{piece_before, piece_after}
use Rattle.records.specs.Run.{record_count, record_at, gathered}
use Rattle.records.proofs.InTwo.{gathered_same, gathered_in_two}
use Rattle.questions.specs.Call.{call_code, call_output}
use Rattle.runs.specs.Answers.{own_bytes, outputs_up_to, codes_up_to}

module _ (a b oa ob : List ℕ) (m : ℕ) (whole : length a ≡ 18 * m) (room : length oa ≡ 8 * m) where
  own_before : (k : ℕ) → k < m → own_bytes (oa ++ ob) k ≡ own_bytes oa k
  unfolding own_bytes
  own_before k h = piece_before 8 oa ob k (omega arith)

  own_after : (k : ℕ) → own_bytes (oa ++ ob) (m + k) ≡ own_bytes ob k
  unfolding own_bytes
  own_after k = piece_after 8 oa ob m room k

  -- whatever is made of a record and its own bytes
  each_in_two : (of : List ℕ → List ℕ → List ℕ) →
      gathered (λ j t. of t (own_bytes (oa ++ ob) j)) (a ++ b) (record_count (a ++ b))
      ≡ gathered (λ j t. of t (own_bytes oa j)) a m ++ gathered (λ j t. of t (own_bytes ob j)) b (record_count b)
  each_in_two of =
      let both : ℕ → List ℕ → List ℕ = λ j t. of t (own_bytes (oa ++ ob) j) in
      let first = gathered_same both (λ j t. of t (own_bytes oa j)) a m (λ j h. ap (of (record_at a j)) (own_before j h)) in
      let second = gathered_same (λ j t. both (m + j) t) (λ j t. of t (own_bytes ob j)) b (record_count b) (λ j h. ap (of (record_at b j)) (own_after j)) in
      gathered_in_two a b m whole both ∙ simp (first, second)

  pub outputs_in_two : outputs_up_to (a ++ b) (oa ++ ob) (record_count (a ++ b)) ≡ outputs_up_to a oa m ++ outputs_up_to b ob (record_count b)
  unfolding outputs_up_to
  outputs_in_two = each_in_two call_output

  pub codes_in_two : codes_up_to (a ++ b) (oa ++ ob) (record_count (a ++ b)) ≡ codes_up_to a oa m ++ codes_up_to b ob (record_count b)
  unfolding codes_up_to
  codes_in_two = each_in_two (λ t own. call_code t own ∷ [])
