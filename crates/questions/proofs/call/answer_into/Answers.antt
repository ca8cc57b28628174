-- `answer_into` meets its contract: a record that is not permitted touches nothing, and another is answered by the work. Assumes nothing.
use mathlib.Core.Path.{◌≡◌, refl, sym, ◌∙◌, ap}
use mathlib.Core.List.{List}
use Prim.Native.Nat.{ℕ}
use lib.ListN.{length}
use Rattle.std.specs.Prelude.{Result, Ok, Err}
use Rattle.refusals.specs.declared.Refusal.{Refusal}
use Rattle.refusals.specs.Answer.{Answer}
use Rattle.refusals.specs.Answer.{Permit}
use Rattle.refusals.specs.Code.{answer_code_of}
use Rattle.refusals.specs.Order.{permitted}
use Rattle.std.proofs.lemmas.Result.{err_from_is_err_and}
use Rattle.words.specs.Word.{with_word}
use Rattle.refusals.proofs.Needed.{permitted_granted, permitted_denied}
use Rattle.records.specs.declared.Record.{Record}
use Rattle.questions.specs.declared.Question.{Question}
use Rattle.records.specs.Record.{record_of}
use Rattle.questions.specs.Asked.{asked_of, question_of, work_of}
use Rattle.questions.specs.Call.{permit_of, call_of, output_of, call_code, call_output}
use Rattle.questions.proofs.call.answer_into.Goals as goal

-- the call's outcome, once what the record asks and whether it is permitted are known
module _ (s out : List ℕ) (question : Result Question Refusal) (p : Permit) (e : question ≡ question_of s) (f : p ≡ permit_of question (length out)) where
  call_is : permitted p (work_of question) ≡ call_of s (length out)
  unfolding call_of
  call_is = simp (f, e)

  call_denied : (r : Refusal) → p ≡ Err r → call_of s (length out) ≡ Err r
  call_denied r g = sym call_is ∙ permitted_denied p (work_of question) r g

  call_granted : p ≡ Ok tt → call_of s (length out) ≡ work_of question
  call_granted g = sym call_is ∙ permitted_granted p (work_of question) g

read_asked : (s : List ℕ) {q : Result Question Refusal} {r : Result Record Refusal} → q ≡ asked_of r → r ≡ record_of s → q ≡ question_of s
unfolding question_of
read_asked s e f = e ∙ ap asked_of f

handed : (s out : List ℕ) {a : Answer} {n : ℕ} {now : List ℕ} → call_of s (length out) ≡ a → n ≡ answer_code_of a → now ≡ output_of a out →
    (n ≡ call_code s out) × (now ≡ call_output s out)
unfolding call_code call_output
handed s out e p q = (p ∙ sym (ap answer_code_of e), q ∙ sym (ap (λ (a : Answer). output_of a out) e))

pub returns-in_err-permit : goal.returns-in_err-permit
returns-in_err-permit c =
    let denied = call_denied c.args.marked.now c.args.out.now _ _ (read_asked _ c.asked-question.ensures c.read.ensures) c.permit.ensures _ c.in_err-permit.was in
    let p = err_from_is_err_and c.from_residual.result c.from_residual.ensures.1 in
    rw (p.1, p.2) (handed c.args.marked.now c.args.out.now denied refl refl)

pub returns-in_err-x : goal.returns-in_err-x
returns-in_err-x c =
    let granted = call_granted c.args.marked.now c.args.out.now _ _ (read_asked _ c.asked-question.ensures c.read.ensures) c.permit.ensures c.in_ok-permit.was in
    let p = err_from_is_err_and c.from_residual-in_err-x.result c.from_residual-in_err-x.ensures.1 in
    rw (p.1, p.2) (handed c.args.marked.now c.args.out.now (granted ∙ sym c.worked.ensures ∙ c.in_err-x.was) refl refl)

pub returns : goal.returns
returns c =
    let granted = call_granted c.args.marked.now c.args.out.now _ _ (read_asked _ c.asked-question.ensures c.read.ensures) c.permit.ensures c.in_ok-permit.was in
    let written = c.put_word.ensures ∙ ap (λ (w : ℕ). with_word w c.args.out.now) c.bits.ensures in
    handed c.args.marked.now c.args.out.now (granted ∙ sym c.worked.ensures ∙ c.in_ok-x.was) refl written
