-- Replies put into a list one after the other: how many bytes they take, what one more changes, and what there is at the
-- end.
use mathlib.Core.Path.{◌≡◌, refl, ◌∙◌, ap}
use mathlib.Core.List.{List, ◌++◌}
use Prim.Native.Nat.{ℕ, ◌+◌, ◌-◌, ◌*◌, ◌≤◌}
use native.Mathlib.Omega.{arith}
use borrow.Rule.Slice.PartMut.{put_mid}
use lib.ListN.{length, take, drop, length-append}
use Rattle.std.specs.Prelude.{Result}
use Rattle.refusals.specs.declared.Refusal.{Refusal}
use Rattle.words.proofs.Tail.{tail_read}
use Rattle.words.proofs.Written.{bytes_length}
use Rattle.words.proofs.Blocks.{Blocks, Put, none_yet as none_put, whole_length, one_more_in_front}
use Rattle.probe_replies.specs.Replies.{reply_bytes, reply_at, replies_of, reply_count, with_replies}

reply_length : (r : Result ℕ Refusal) → length (reply_bytes r) ≡ 16
unfolding reply_bytes
reply_length r = simp (length-append, bytes_length)

-- the reply to the question k of s
replied : List ℕ → ℕ → List ℕ
replied s k = reply_bytes (reply_at (drop (24 * k) s))

replies : (s out : List ℕ) → Blocks 16 (length out) (replied s) (replies_of s)
unfolding replies_of replied
replies s out = record { start = refl; next = λ k. refl; size = λ k inside. reply_length (reply_at (drop (24 * k) s)) }

-- the first k questions of s are answered in out, which was out₀
abbrev pub Answered : List ℕ → List ℕ → List ℕ → ℕ → Type 0
Answered s out₀ out k = Put 16 (replies_of s) out₀ out k

pub none_yet : (s out : List ℕ) → Answered s out out 0
none_yet s out = none_put 16 (replied s) (replies_of s) out (replies s out)

count_fits : (s out : List ℕ) → 16 * reply_count s out ≤ length out
unfolding reply_count
count_fits s out = omega arith

-- what is written lies inside the list
pub replies_inside : (s out now : List ℕ) (r : ℕ) → r ≡ 16 * reply_count s out → now ≡ with_replies s out → r ≤ length now
unfolding with_replies
replies_inside s out now r p q =
    rw (p, q, whole_length 16 (replied s) (replies_of s) out (replies s out) (reply_count s out) (count_fits s out)) (count_fits s out)

pub one_more :
    (s out₀ out p : List ℕ) (k : ℕ) (a : Result ℕ Refusal) → Answered s out₀ out k → 16 ≤ length out - 16 * k →
    a ≡ reply_at (take (length s - 24 * k) (drop (24 * k) s)) →
    p ≡ reply_bytes a ++ drop 16 (take (length out - 16 * k) (drop (16 * k) out)) →
    Answered s out₀ (put_mid (16 * k) (length out - 16 * k) out p) (k + 1)
unfolding replied
one_more s out₀ out p k a h more q r =
    one_more_in_front 16 (replied s) (replies_of s) out₀ (replies s out₀) out k h p more
    (r
    ∙ ap (λ (x : Result ℕ Refusal). reply_bytes x ++ drop 16 (take (length out - 16 * k) (drop (16 * k) out))) (q ∙ ap reply_at (tail_read (24 * k) s)))

-- all are answered
pub finished : (s out₀ out : List ℕ) (k : ℕ) → Answered s out₀ out k → k ≡ reply_count s out₀ → out ≡ with_replies s out₀
unfolding with_replies
finished s out₀ out k h e = h.so_far ∙ ap (λ (n : ℕ). replies_of s n ++ drop (16 * n) out₀) e
