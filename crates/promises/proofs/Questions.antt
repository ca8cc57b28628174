-- Each public call of the crate `questions` promises one outcome: its contract gives it by a definition of its arguments.
use mathlib.Core.Path.{sym, ◌∙◌}
use mathlib.Core.List.{List}
use Prim.Native.Nat.{ℕ}
use Rattle.refusals.proofs.ReadBack.{same_permit}
use Rattle.promises.specs.OneOutcome.{OneResult, OneOutcome}
use Rattle.questions.proofs.asked.Kinds as asked_kinds
use Rattle.questions.proofs.asked.Reads as asked_reads
use Rattle.questions.proofs.density_at.Kinds as density_at_kinds
use Rattle.questions.proofs.density_at.Reads as density_at_reads
use Rattle.questions.proofs.answer.Kinds as answer_kinds
use Rattle.questions.proofs.answer.Reads as answer_reads
use Rattle.questions.proofs.answer_into.Kinds as answer_into_kinds
use Rattle.questions.proofs.answer_into.Reads as answer_into_reads

pub asked_one : OneResult _ asked_kinds.ps asked_kinds.r asked_reads.Learnt
asked_one κs a x y e f p q = p ∙ sym q

pub density_at_one : OneResult _ density_at_kinds.ps density_at_kinds.r density_at_reads.Learnt
density_at_one κs a x y e f p q = p ∙ sym q

pub answer_one : OneResult _ answer_kinds.ps answer_kinds.r answer_reads.Learnt
answer_one κs a x y e f p q = p ∙ sym q

-- the bytes as well
pub answer_into_one : OneOutcome _ answer_into_kinds.ps answer_into_kinds.r (List ℕ) (λ κs e. e.1.0.now) answer_into_reads.Learnt
answer_into_one κs a x y e f p q = (same_permit (p.0 ∙ sym q.0), p.1 ∙ sym q.1)
