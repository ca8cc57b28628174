-- docs/NO-ANSWER.md, "Records": what the C calls can end with, whatever the bytes of a record, of a run and of an output are;
-- proofs/CCall.antt and proofs/Runs.antt prove it.
use Rattle.std.specs.Prelude.{◌≡◌, ◌↔◌, List, [], ◌∷◌, ℕ, ◌≤◌, ◌<◌, length, get_or, Ok}
use Rattle.questions.specs.Asked.{question_of}
use Rattle.questions.specs.Call.{permit_of, call_code}
use Rattle.records.specs.Run.{record_count}
use Rattle.runs.specs.Answers.{run_code, run_codes}
use Rattle.refusals.specs.Code.{OneOf}

pub record RecordCalls : Type 0 where
  -- 0 exactly if the mark, the two numbers and the room in the output are permitted
  pub answered : (s out : List ℕ) → (call_code s out ≡ 0) ↔ (permit_of (question_of s) (length out) ≡ Ok tt)
  -- one of these, else
  pub code : (s out : List ℕ) → OneOf (call_code s out) (0 ∷ 1 ∷ 2 ∷ 3 ∷ 4 ∷ 5 ∷ 7 ∷ 14 ∷ 15 ∷ [])
  -- and with room in the output not 7
  pub code_with_room : (s out : List ℕ) → 8 ≤ length out → OneOf (call_code s out) (0 ∷ 1 ∷ 2 ∷ 3 ∷ 4 ∷ 5 ∷ 14 ∷ 15 ∷ [])

-- a run of records at once
pub record RunCalls : Type 0 where
  -- the run's own code
  pub code : (s out codes : List ℕ) → OneOf (run_code s out codes) (0 ∷ 7 ∷ 18 ∷ [])
  -- of a run that is answered, each record's: not 7, since it has eight bytes of its own
  pub each : (s out codes : List ℕ) → run_code s out codes ≡ 0 → (k : ℕ) → k < record_count s →
      OneOf (get_or (run_codes s out codes) k 0) (0 ∷ 1 ∷ 2 ∷ 3 ∷ 4 ∷ 5 ∷ 14 ∷ 15 ∷ [])
