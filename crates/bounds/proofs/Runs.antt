-- A run ends with 0, 7 or 18, and a record of one that is answered with any code of a single record but 7: it has eight bytes of its own.
use mathlib.Core.Path.{◌≡◌, refl}
use mathlib.Core.Logic.{inl, inr}
use mathlib.Core.List.{List, [], ◌∷◌}
use Prim.Native.Nat.{ℕ, ◌<◌}
use native.Mathlib.Omega.{arith}
use lib.ListN.{length, get_or}
use Rattle.refusals.specs.Code.{OneOf}
use Rattle.refusals.proofs.InOrder.{denied_code, by_permit}
use Rattle.records.specs.Run.{record_count, record_at}
use Rattle.runs.specs.Answers.{own_bytes, run_tests, permit_of, run_permit, run_code, run_codes}
use Rattle.runs.proofs.Progress.{own_length}
use Rattle.runs.proofs.Theorems.{exactly_answered, each_code_lem}
use Rattle.bounds.specs.Records.{RunCalls}
use Rattle.bounds.proofs.CCall.{record_calls}

module _ (s out codes : List ℕ) where
  run_code_lem : OneOf (run_code s out codes) (0 ∷ 7 ∷ 18 ∷ [])
  unfolding run_code run_permit permit_of
  run_code_lem =
      by_permit (run_permit s out codes)
      (λ g. rw g (inl refl))
      (λ r d. rw d (inr (denied_code (7 ∷ 18 ∷ []) (run_tests (record_count s) (length out) (length codes)) tt r d)))

  each_listed : run_code s out codes ≡ 0 → (k : ℕ) → k < record_count s → OneOf (get_or (run_codes s out codes) k 0) (0 ∷ 1 ∷ 2 ∷ 3 ∷ 4 ∷ 5 ∷ 14 ∷ 15 ∷ [])
  each_listed answered k h =
      let fits = (exactly_answered s out codes).0 answered in
      let own = own_length out k (omega arith) in
      rw (each_code_lem s out codes answered k h) (record_calls.code_with_room (record_at s k) (own_bytes out k) (omega arith))

pub run_calls : RunCalls
run_calls = record { code = run_code_lem; each = each_listed }
