-- 01, "the C call": the code and the output of a record of exactly 18 bytes and an output whose first 8 bytes get the number's
-- bits, in 01's order: 15, 14, 1, 2, 3, 4, 5, 7, then the work.
use Rattle.std.specs.Prelude.{List, ℕ, leb, length, Ok, Err, Result}
use Rattle.std.specs.Float.{binary64}
use Rattle.std.specs.Float.Ieee.{to_bits}
use Rattle.refusals.specs.declared.Refusal.{Refusal}
use Rattle.refusals.specs.declared.Refusal.TheVariants.{TooShort}
use Rattle.refusals.specs.Answer.{Permit}
use Rattle.refusals.specs.Answer.{Answer}
use Rattle.refusals.specs.Code.{answer_code_of}
use Rattle.refusals.specs.Order.{tested_of, permitted}
use Rattle.words.specs.Word.{with_word}
use Rattle.inputs.specs.Inputs.{state_permit, asked_permit}
use Rattle.questions.specs.declared.Question.{Question}
use Rattle.questions.specs.declared.Question.TheVariants.{State, Search}
use Rattle.questions.specs.Asked.{question_of, work_of}

-- 15, 14, 1 stand in the question; then 2, 3, and 4 or 5
abbrev pub inputs_of : Result Question Refusal → Permit
inputs_of (Ok (State F T ρ)) = state_permit F T ρ
inputs_of (Ok (Search F T P side)) = asked_permit F T P
inputs_of (Err r) = Err r

-- 7 after those: an output under 8 bytes
unfoldable pub permit_of : Result Question Refusal → ℕ → Permit
permit_of question room = tested_of (inputs_of question) (leb 8 room) TooShort

-- what is handed out for the record s where the output has room bytes
unfoldable pub call_of : List ℕ → ℕ → Answer
call_of s room = permitted (permit_of (question_of s) room) (work_of (question_of s))

-- the output afterwards: the number's bits in its first eight bytes, the lowest first; as it was where refused
abbrev pub output_of : Answer → List ℕ → List ℕ
output_of (Ok x) out = with_word (to_bits binary64 x) out
output_of (Err r) out = out

-- ---- the call

unfoldable pub call_code : List ℕ → List ℕ → ℕ
call_code s out = answer_code_of (call_of s (length out))

unfoldable pub call_output : List ℕ → List ℕ → List ℕ
call_output s out = output_of (call_of s (length out)) out
