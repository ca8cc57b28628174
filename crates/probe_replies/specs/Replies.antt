-- Questions of 24 bytes, one after the other, and their replies of 16: words, the lowest byte first.
use Rattle.std.specs.Prelude.{cond, List, [], ◌++◌, ℕ, zero, suc, ◌+◌, ◌-◌, ◌*◌, ◌/◌, ◌^◌, min, leb, length, drop, Result, Err}
use Rattle.std.specs.Result.{result_unwrap_or}
use Rattle.refusals.specs.declared.Refusal.{Refusal}
use Rattle.refusals.specs.declared.Refusal.TheVariants.{CutShort}
use Rattle.refusals.specs.Code.{answer_code_of}
use Rattle.words.specs.Word.{word_of, bytes_of}
use Rattle.probe_replies.specs.Question.{reply_to}

-- 0, or the refusal's number
abbrev pub reply_code : Result ℕ Refusal → ℕ
reply_code reply = answer_code_of reply

-- the second word, and all ones where refused
abbrev pub reply_second : Result ℕ Refusal → ℕ
reply_second reply = result_unwrap_or reply (2 ^ 64 - 1)

-- the code, then the second word
unfoldable pub reply_bytes : Result ℕ Refusal → List ℕ
reply_bytes r = bytes_of (reply_code r) ++ bytes_of (reply_second r)

-- the reply to the question at the front of s, and 15 where s is shorter than a question
unfoldable pub reply_at : List ℕ → Result ℕ Refusal
reply_at s = cond (leb 24 (length s)) (reply_to (word_of s) (word_of (drop 8 s)) (word_of (drop 16 s))) (Err CutShort)

-- the replies to the first k questions of s
unfoldable pub replies_of : List ℕ → ℕ → List ℕ
replies_of s zero = []
replies_of s (suc k) = replies_of s k ++ reply_bytes (reply_at (drop (24 * k) s))

-- how many replies there are: one for each question, the short piece at the end counted, as long as there is room
unfoldable pub reply_count : List ℕ → List ℕ → ℕ
reply_count s out = min ((length s + 23) / 24) (length out / 16)

-- the replies in the first places, and the places after them as they were
unfoldable pub with_replies : List ℕ → List ℕ → List ℕ
with_replies s out = replies_of s (reply_count s out) ++ drop (16 * reply_count s out) out
