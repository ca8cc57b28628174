-- 02, M-101: a run of records at once. For each record the code and the eight bytes are those of the single call, made on that record
-- with its own eight bytes; or 7, then 18, and nothing is written.
use Rattle.std.specs.Prelude.{Bool, List, [], ◌∷◌, ◌++◌, ℕ, ◌*◌, ◌≤◌, leb, length, take, drop}
use Rattle.refusals.specs.declared.Refusal.{Refusal}
use Rattle.refusals.specs.declared.Refusal.TheVariants.{TooShort, TooManyRecords}
use Rattle.refusals.specs.Answer.{Permit}
use Rattle.refusals.specs.Code.{answer_code_of}
use Rattle.refusals.specs.Order.{first_of, left_by}
use Rattle.records.specs.Run.{record_count, gathered}
use Rattle.questions.specs.Call.{call_code, call_output}

-- ---- each record

-- the eight bytes of the output that the record number k has as its own
unfoldable pub own_bytes : List ℕ → ℕ → List ℕ
own_bytes out k = take 8 (drop (8 * k) out)

-- what the single call on each of the first k records leaves in that record's own bytes, one after the other
unfoldable pub outputs_up_to : List ℕ → List ℕ → ℕ → List ℕ
outputs_up_to s out k = gathered (λ j t. call_output t (own_bytes out j)) s k

-- the codes that it returns
unfoldable pub codes_up_to : List ℕ → List ℕ → ℕ → List ℕ
codes_up_to s out k = gathered (λ j t. call_code t (own_bytes out j) ∷ []) s k

-- the output after all records, n of them: bytes after 8·n as they were
unfoldable pub each_output : List ℕ → List ℕ → List ℕ
each_output s out = outputs_up_to s out (record_count s) ++ drop (8 * record_count s) out

-- the code list: places after n as they were
unfoldable pub each_code : List ℕ → List ℕ → List ℕ → List ℕ
each_code s out codes = codes_up_to s out (record_count s) ++ drop (record_count s) codes

-- ---- the order of refusals

-- 7 if the output has less than 8·n bytes or the code list less than n places; then 18 if n > 4,096
abbrev pub run_tests : ℕ → ℕ → ℕ → List (Bool × Refusal)
run_tests n room places = (leb (8 * n) room, TooShort) ∷ (leb n places, TooShort) ∷ (leb n 4096, TooManyRecords) ∷ []

unfoldable pub permit_of : ℕ → ℕ → ℕ → Permit
permit_of n room places = first_of (run_tests n room places)

-- of the run s, a short piece at its end counted
unfoldable pub run_permit : List ℕ → List ℕ → List ℕ → Permit
run_permit s out codes = permit_of (record_count s) (length out) (length codes)

-- both lists have the room, as a fact
abbrev pub RunFits : List ℕ → List ℕ → List ℕ → Type 0
RunFits s out codes = (8 * record_count s ≤ length out) × (record_count s ≤ length codes)

-- ---- the call

unfoldable pub run_code : List ℕ → List ℕ → List ℕ → ℕ
run_code s out codes = answer_code_of (run_permit s out codes)

unfoldable pub run_output : List ℕ → List ℕ → List ℕ → List ℕ
run_output s out codes = left_by (run_permit s out codes) out (each_output s out)

unfoldable pub run_codes : List ℕ → List ℕ → List ℕ → List ℕ
run_codes s out codes = left_by (run_permit s out codes) codes (each_code s out codes)
