-- The records of a run answered one after the other: what the output and the code list hold after the first k, after one more, and at the end.
use mathlib.Core.Path.{◌≡◌, refl, ◌∙◌, ap}
use mathlib.Core.List.{List, [], ◌∷◌, ◌++◌}
use Prim.Native.Nat.{ℕ, ◌+◌, ◌-◌, ◌*◌, ◌≤◌, ◌<◌}
use native.Mathlib.Omega.{arith}
use borrow.Rule.Slice.PartMut.{put_mid}
use lib.Ieee.{binary64, to_bits}
use lib.ListN.{length, take, drop, set, length-take, length-drop}
use Rattle.std.specs.Prelude.{Ok, Err}
use Rattle.refusals.specs.Answer.{Answer}
use Rattle.words.proofs.Written.{word_length}
use Rattle.words.proofs.Blocks.{Blocks, Put, none_yet as none_put, tail, one_more as one_more_block, one_place}
use Rattle.records.specs.Run.{record_count, record_at, gathered}
use Rattle.questions.specs.Call.{output_of, call_of, call_code, call_output}
use Rattle.runs.specs.Answers.{own_bytes, outputs_up_to, codes_up_to, each_output, each_code}

-- ---- a call leaves its output as long as it was

output_length : (a : Answer) (out : List ℕ) → length (output_of a out) ≡ length out
output_length (Ok x) out = word_length (to_bits binary64 x) out
output_length (Err r) out = refl

call_length : (t out : List ℕ) → length (call_output t out) ≡ length out
unfolding call_output
call_length t out = output_length (call_of t (length out)) out

pub own_length : (out : List ℕ) (k : ℕ) → 8 * k + 8 ≤ length out → length (own_bytes out k) ≡ 8
unfolding own_bytes
own_length out k h = simp (length-take, length-drop) (omega arith)

-- ---- what the records give, as blocks

module _ (s out₀ : List ℕ) where
  unfoldable pub output_at : ℕ → List ℕ
  output_at k = call_output (record_at s k) (own_bytes out₀ k)

  unfoldable pub code_at : ℕ → List ℕ
  code_at k = call_code (record_at s k) (own_bytes out₀ k) ∷ []

  pub outputs : Blocks 8 (length out₀) output_at (outputs_up_to s out₀)
  unfolding outputs_up_to gathered output_at
  outputs = record {
    start = refl;
    next = λ k. refl;
    size = λ k inside. call_length (record_at s k) (own_bytes out₀ k) ∙ own_length out₀ k inside;
  }

  pub codes_of : (codes₀ : List ℕ) → Blocks 1 (length codes₀) code_at (codes_up_to s out₀)
  unfolding codes_up_to gathered code_at
  codes_of codes₀ = record { start = refl; next = λ k. refl; size = λ k inside. refl }

-- ---- the loop

-- the first k records of s are answered in out and codes, which were out₀ and codes₀
pub record Answered (s out₀ codes₀ out codes : List ℕ) (k : ℕ) : Type 0 where
  pub output : Put 8 (outputs_up_to s out₀) out₀ out k
  pub codes_so_far : Put 1 (codes_up_to s out₀) codes₀ codes k

module _ (s out₀ codes₀ : List ℕ) where
  pub none_yet : Answered s out₀ codes₀ out₀ codes₀ 0
  none_yet = record {
    output = none_put 8 (output_at s out₀) (outputs_up_to s out₀) out₀ (outputs s out₀);
    codes_so_far = none_put 1 (code_at s out₀) (codes_up_to s out₀) codes₀ (codes_of s out₀ codes₀);
  }

  module _ (out codes : List ℕ) (k : ℕ) (h : Answered s out₀ codes₀ out codes k) where
    -- the record's own bytes are still as they were
    own_still : take (8 * k + 8 - 8 * k) (drop (8 * k) out) ≡ own_bytes out₀ k
    unfolding own_bytes
    own_still =
        let eight : 8 * k + 8 - 8 * k ≡ 8 = omega arith in
        simp (eight, tail 8 (output_at s out₀) (outputs_up_to s out₀) out₀ (outputs s out₀) out k h.output)

    pub one_more :
        (t p : List ℕ) (code : ℕ) → t ≡ record_at s k → 8 * k + 8 ≤ length out → k < length codes →
        code ≡ call_code t (take (8 * k + 8 - 8 * k) (drop (8 * k) out)) → p ≡ call_output t (take (8 * k + 8 - 8 * k) (drop (8 * k) out)) →
        Answered s out₀ codes₀ (put_mid (8 * k) (8 * k + 8 - 8 * k) out p) (set codes k code) (k + 1)
    unfolding output_at code_at
    one_more t p code e room place c o = record {
      output =
          one_more_block 8 (output_at s out₀) (outputs_up_to s out₀) out₀ (outputs s out₀) out k h.output p room
          (o ∙ simp (e, own_still));
      codes_so_far =
          one_place (code_at s out₀) (codes_up_to s out₀) codes₀ (codes_of s out₀ codes₀) codes k code h.codes_so_far place
          (ap (λ (n : ℕ). n ∷ []) (c ∙ simp (e, own_still)));
    }

    pub finished : k ≡ record_count s → (out ≡ each_output s out₀) × (codes ≡ each_code s out₀ codes₀)
    unfolding each_output each_code
    finished all =
        let one : 1 * k ≡ k = omega arith in (
          h.output.so_far ∙ ap (λ (n : ℕ). outputs_up_to s out₀ n ++ drop (8 * n) out₀) all,
          h.codes_so_far.so_far ∙ ap (λ (n : ℕ). codes_up_to s out₀ k ++ drop n codes₀) one ∙ ap (λ (n : ℕ). codes_up_to s out₀ n ++ drop n codes₀) all,
        )
