-- What follows of the run's call from its definition, for readers who want 02's sentences one by one.
use mathlib.Core.Path.{◌≡◌, sym, ◌∙◌, ap}
use mathlib.Core.Logic.{◌⊎◌, inl, inr, ◌↔◌}
use mathlib.Core.List.{List, [], ◌++◌}
use Prim.Native.Nat.{ℕ, ◌+◌, ◌*◌, ◌≤◌, ◌<◌}
use native.Mathlib.Omega.{arith}
use borrow.Author.Tests.{le-leb, lt-leb, leb-true, leb-false, ne_eqb}
use lib.Dec.{leb}
use lib.ListN.{length, drop, get_or, length-take, length-drop}
use lib.Seq.{drop_at, get_or-take, get_or-drop}
use Rattle.std.specs.Prelude.{Ok, Err}
use Rattle.refusals.specs.declared.Refusal.{Refusal}
use Rattle.refusals.specs.declared.Refusal.TheVariants.{TooShort, TooManyRecords}
use Rattle.refusals.specs.Answer.{Permit}
use Rattle.refusals.specs.Code.{answer_code_of}
use Rattle.refusals.proofs.Tests.{by}
use Rattle.refusals.proofs.Apart.{another_code}
use Rattle.refusals.proofs.InOrder.{by_permit}
use Rattle.words.proofs.Blocks.{all_length, block_there}
use Rattle.records.specs.Record.{record_of}
use Rattle.records.specs.Run.{record_count, record_at}
use Rattle.questions.specs.Asked.{question_of}
use Rattle.questions.specs.Call as Call
use Rattle.questions.specs.Call.{call_of, call_code, call_output}
use Rattle.questions.proofs.Theorems.{refused_unchanged}
use Rattle.runs.specs.Answers.{own_bytes, outputs_up_to, codes_up_to, each_output, each_code, permit_of, run_permit, run_code, run_output, run_codes}
use Rattle.runs.proofs.Progress.{output_at, code_at, outputs, codes_of}

-- ---- the order of refusals

module _ (n room places : ℕ) where
  output_short : room < 8 * n → permit_of n room places ≡ Err TooShort
  unfolding permit_of
  output_short h = simp (lt-leb (8 * n) room h)

  codes_short : places < n → permit_of n room places ≡ Err TooShort
  unfolding permit_of
  codes_short h = by (leb (8 * n) room) (λ e. simp (e, lt-leb n places h)) (λ e. simp e)

  too_many : 8 * n ≤ room → n ≤ places → 4096 < n → permit_of n room places ≡ Err TooManyRecords
  unfolding permit_of
  too_many a b h = simp (le-leb (8 * n) room a, le-leb n places b, lt-leb n 4096 h)

  permitted : 8 * n ≤ room → n ≤ places → n ≤ 4096 → permit_of n room places ≡ Ok tt
  unfolding permit_of
  permitted a b h = simp (le-leb (8 * n) room a, le-leb n places b, le-leb n 4096 h)

  -- the four cases
  by_lengths : {X : Type 0} →
      (room < 8 * n → X) → (places < n → X) → (8 * n ≤ room → n ≤ places → 4096 < n → X) → (8 * n ≤ room → n ≤ places → n ≤ 4096 → X) → X
  by_lengths output codes many fits =
      by (leb (8 * n) room)
      (λ e. by (leb n places)
      (λ f. by (leb n 4096)
      (λ g. fits (leb-true (8 * n) room e) (leb-true n places f) (leb-true n 4096 g))
      (λ g. many (leb-true (8 * n) room e) (leb-true n places f) (leb-false n 4096 g)))
      (λ f. codes (leb-false n places f)))
      (λ e. output (leb-false (8 * n) room e))

module _ (s out codes : List ℕ) where
  coded : {p : Permit} → run_permit s out codes ≡ p → run_code s out codes ≡ answer_code_of p
  unfolding run_code
  coded e = ap answer_code_of e

  granted_is : 8 * record_count s ≤ length out → record_count s ≤ length codes → record_count s ≤ 4096 → run_permit s out codes ≡ Ok tt
  unfolding run_permit
  granted_is a b h = permitted (record_count s) (length out) (length codes) a b h

  many_is : 8 * record_count s ≤ length out → record_count s ≤ length codes → 4096 < record_count s → run_permit s out codes ≡ Err TooManyRecords
  unfolding run_permit
  many_is a b h = too_many (record_count s) (length out) (length codes) a b h

  short_is : (length out < 8 * record_count s) ⊎ (length codes < record_count s) → run_permit s out codes ≡ Err TooShort
  unfolding run_permit
  short_is (inl h) = output_short (record_count s) (length out) (length codes) h
  short_is (inr h) = codes_short (record_count s) (length out) (length codes) h

  pub exactly_seven : (run_code s out codes ≡ 7) ↔ ((length out < 8 * record_count s) ⊎ (length codes < record_count s))
  exactly_seven = (
    λ e. by_lengths (record_count s) (length out) (length codes) inl inr
        (λ a b h. another_code tt (coded (many_is a b h)) e)
        (λ a b h. another_code tt (coded (granted_is a b h)) e),
    λ h. coded (short_is h),
  )

  pub exactly_eighteen : (run_code s out codes ≡ 18) ↔ ((8 * record_count s ≤ length out) × (record_count s ≤ length codes) × (4096 < record_count s))
  exactly_eighteen = (
    λ e. by_lengths (record_count s) (length out) (length codes)
        (λ h. another_code tt (coded (short_is (inl h))) e)
        (λ h. another_code tt (coded (short_is (inr h))) e)
        (λ a b h. (a, b, h))
        (λ a b h. another_code tt (coded (granted_is a b h)) e),
    λ h. coded (many_is h.0 h.1 h.2),
  )

  pub exactly_answered : (run_code s out codes ≡ 0) ↔ ((8 * record_count s ≤ length out) × (record_count s ≤ length codes) × (record_count s ≤ 4096))
  exactly_answered = (
    λ e. by_lengths (record_count s) (length out) (length codes)
        (λ h. another_code tt (coded (short_is (inl h))) e)
        (λ h. another_code tt (coded (short_is (inr h))) e)
        (λ a b h. another_code tt (coded (many_is a b h)) e)
        (λ a b h. (a, b, h)),
    λ h. coded (granted_is h.0 h.1 h.2),
  )

-- ---- a record that is cut

cut_code : (t out : List ℕ) → (length t ≡ 18 → ⊥) → call_code t out ≡ 15
unfolding call_code call_of Call.permit_of question_of record_of
cut_code t out h = simp (ne_eqb (length t) 18 h)

shorter : (s : List ℕ) (k : ℕ) → length s < 18 * k + 18 → length (record_at s k) ≡ 18 → ⊥
unfolding record_at
shorter s k h e = omega (arith, simp (length-take, length-drop) at e)

-- ---- the lists afterwards

module _ (s out codes : List ℕ) where
  -- what the walk left, at its places and after them
  output_there : (k : ℕ) → k < record_count s → 8 * record_count s ≤ length out → own_bytes (each_output s out) k ≡ output_at s out k
  unfolding own_bytes each_output
  output_there k h fits =
      block_there 8 (length out) (output_at s out) (outputs_up_to s out) (outputs s out) (record_count s) (drop (8 * record_count s) out) k h fits

  code_there : (k : ℕ) → k < record_count s → record_count s ≤ length codes → get_or (each_code s out codes) k 0 ≡ get_or (code_at s out k) 0 0
  unfolding each_code
  code_there k h fits =
      let place : 1 * k + 0 ≡ k = omega arith in
      let all = codes_up_to s out (record_count s) ++ drop (record_count s) codes in
      ap (λ (j : ℕ). get_or all j 0) (sym place)
      ∙ sym (get_or-drop (1 * k) all 0 0)
      ∙ sym (get_or-take 1 (drop (1 * k) all) 0 0 (omega arith))
      ∙ ap (λ (l : List ℕ). get_or l 0 0)
      (block_there 1 (length codes) (code_at s out) (codes_up_to s out) (codes_of s out codes) (record_count s) (drop (record_count s) codes) k h (omega arith))

  output_after : 8 * record_count s ≤ length out → drop (8 * record_count s) (each_output s out) ≡ drop (8 * record_count s) out
  unfolding each_output
  output_after fits =
      drop_at (outputs_up_to s out (record_count s)) (drop (8 * record_count s) out) (8 * record_count s)
      (all_length 8 (length out) (output_at s out) (outputs_up_to s out) (outputs s out) (record_count s) fits)

  codes_after : record_count s ≤ length codes → drop (record_count s) (each_code s out codes) ≡ drop (record_count s) codes
  unfolding each_code
  codes_after fits =
      let all : length (codes_up_to s out (record_count s)) ≡ 1 * record_count s =
      all_length 1 (length codes) (code_at s out) (codes_up_to s out) (codes_of s out codes) (record_count s) (omega arith) in
      drop_at (codes_up_to s out (record_count s)) (drop (record_count s) codes) (record_count s) (omega arith)

  left_output : (r : Refusal) → run_permit s out codes ≡ Err r → run_output s out codes ≡ out
  unfolding run_output
  left_output r d = simp d

  left_codes : (r : Refusal) → run_permit s out codes ≡ Err r → run_codes s out codes ≡ codes
  unfolding run_codes
  left_codes r d = simp d

  -- a refused run leaves both lists as they were
  pub refused_run : (run_code s out codes ≡ 0 → ⊥) → (run_output s out codes ≡ out) × (run_codes s out codes ≡ codes)
  refused_run h = by_permit (run_permit s out codes) (λ g. absurd (h (coded s out codes g))) (λ r d. (left_output r d, left_codes r d))

  module _ (answered : run_code s out codes ≡ 0) where
    fits : (8 * record_count s ≤ length out) × (record_count s ≤ length codes) × (record_count s ≤ 4096)
    fits = (exactly_answered s out codes).0 answered

    granted : run_permit s out codes ≡ Ok tt
    granted = granted_is s out codes fits.0 fits.1 fits.2

    output_is : run_output s out codes ≡ each_output s out
    unfolding run_output
    output_is = simp granted

    codes_are : run_codes s out codes ≡ each_code s out codes
    unfolding run_codes
    codes_are = simp granted

    -- each record's eight bytes and its code are the single call's
    pub each_output_lem : (k : ℕ) → k < record_count s → own_bytes (run_output s out codes) k ≡ call_output (record_at s k) (own_bytes out k)
    unfolding output_at
    each_output_lem k h = ap (λ (l : List ℕ). own_bytes l k) output_is ∙ output_there k h fits.0

    pub each_code_lem : (k : ℕ) → k < record_count s → get_or (run_codes s out codes) k 0 ≡ call_code (record_at s k) (own_bytes out k)
    unfolding code_at
    each_code_lem k h = ap (λ (l : List ℕ). get_or l k 0) codes_are ∙ code_there k h fits.1

    -- the eight bytes of a refused record stay as they were
    pub refused_record : (k : ℕ) → k < record_count s → (get_or (run_codes s out codes) k 0 ≡ 0 → ⊥) → own_bytes (run_output s out codes) k ≡ own_bytes out k
    refused_record k h refused = each_output_lem k h ∙ refused_unchanged (record_at s k) (own_bytes out k) (λ e. refused (each_code_lem k h ∙ e))

    -- a piece at the end gets 15
    pub piece_is_cut : (k : ℕ) → k < record_count s → length s < 18 * k + 18 → get_or (run_codes s out codes) k 0 ≡ 15
    piece_is_cut k h short = each_code_lem k h ∙ cut_code (record_at s k) (own_bytes out k) (shorter s k short)

  -- bytes after 8·n and places after n never change
  pub bytes_after : drop (8 * record_count s) (run_output s out codes) ≡ drop (8 * record_count s) out
  bytes_after =
      by_permit (run_permit s out codes)
      (λ g. let answered = coded s out codes g in ap (drop (8 * record_count s)) (output_is answered) ∙ output_after (fits answered).0)
      (λ r d. ap (drop (8 * record_count s)) (left_output r d))

  pub places_after : drop (record_count s) (run_codes s out codes) ≡ drop (record_count s) codes
  places_after =
      by_permit (run_permit s out codes)
      (λ g. let answered = coded s out codes g in ap (drop (record_count s)) (codes_are answered) ∙ codes_after (fits answered).1)
      (λ r d. ap (drop (record_count s)) (left_codes r d))

-- no records are answered with 0, and nothing is written
pub no_records : (out codes : List ℕ) → (run_code [] out codes ≡ 0) × (run_output [] out codes ≡ out) × (run_codes [] out codes ≡ codes)
no_records out codes = ((exactly_answered [] out codes).1 (omega arith, omega arith, omega arith), bytes_after [] out codes, places_after [] out codes)
