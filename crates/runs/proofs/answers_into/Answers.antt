-- `answers_into` meets its contract: a run that is denied touches nothing, and of another each record is answered. Assumes nothing.
use mathlib.Core.Path.{◌≡◌, refl, sym, ◌∙◌, ap}
use mathlib.Core.List.{List}
use Prim.Native.Nat.{ℕ, ◌*◌}
use borrow.Author.Tests.{leb-true}
use lib.ListN.{length}
use Rattle.std.specs.Prelude.{Ok, Err}
use Rattle.std.proofs.lemmas.Result.{err_from_is_err_and}
use Rattle.refusals.specs.declared.Refusal.{Refusal}
use Rattle.refusals.specs.Answer.{Permit}
use Rattle.refusals.specs.Code.{code_of}
use Rattle.refusals.proofs.InOrder.{all_passed}
use Rattle.records.specs.Run.{record_count}
use Rattle.runs.specs.Answers.{run_tests, permit_of, run_permit, RunFits, each_output, each_code, run_code, run_output, run_codes}
use Rattle.runs.proofs.answers_into.Goals as goal

module _ (s out codes : List ℕ) where
  permit_is : {n : ℕ} {p : Permit} → n ≡ record_count s → p ≡ permit_of n (length out) (length codes) → p ≡ run_permit s out codes
  unfolding run_permit
  permit_is e f = f ∙ ap (λ (m : ℕ). permit_of m (length out) (length codes)) e

  denied : {code : ℕ} {p : Permit} {r : Refusal} → p ≡ run_permit s out codes → p ≡ Err r → code ≡ code_of r →
      (code ≡ run_code s out codes) × (out ≡ run_output s out codes) × (codes ≡ run_codes s out codes)
  unfolding run_code run_output run_codes
  denied {code} {p} {r} e d f =
      let is : run_permit s out codes ≡ Err r = sym e ∙ d in
      (f ∙ sym (simp is), sym (simp is), sym (simp is))

  granted : {p : Permit} {out_now codes_now : List ℕ} → p ≡ run_permit s out codes → p ≡ Ok tt → out_now ≡ each_output s out → codes_now ≡ each_code s out codes →
      (0 ≡ run_code s out codes) × (out_now ≡ run_output s out codes) × (codes_now ≡ run_codes s out codes)
  unfolding run_code run_output run_codes
  granted e g o k =
      let is : run_permit s out codes ≡ (Ok tt) = sym e ∙ g in
      (sym (simp is), o ∙ sym (simp is), k ∙ sym (simp is))

  fits : {p : Permit} → p ≡ run_permit s out codes → p ≡ Ok tt → RunFits s out codes
  unfolding run_permit permit_of
  fits e g =
      let passed = all_passed (run_tests (record_count s) (length out) (length codes)) (sym e ∙ g) in
      (leb-true (8 * record_count s) (length out) passed.0, leb-true (record_count s) (length codes) passed.1.0)

pub answer_each-requires : goal.answer_each-requires
answer_each-requires c =
    fits c.args.run.now c.args.out.now c.args.codes.now (permit_is _ _ _ c.record_count.ensures c.permit.ensures) c.in_ok-permit.was

pub returns-in_err-permit : goal.returns-in_err-permit
returns-in_err-permit c =
    let p = err_from_is_err_and c.from_residual.result c.from_residual.ensures.1 in
    rw (p.1, p.2) (denied c.args.run.now c.args.out.now c.args.codes.now (permit_is _ _ _ c.record_count.ensures c.permit.ensures) c.in_err-permit.was refl)

pub returns : goal.returns
returns c =
    granted c.args.run.now c.args.out.now c.args.codes.now (permit_is _ _ _ c.record_count.ensures c.permit.ensures) c.in_ok-permit.was c.answer_each.ensures.0 c.answer_each.ensures.1
