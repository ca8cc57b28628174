-- Each public call of the crate `verriblom` promises one outcome: its contract gives it by a definition of its arguments.
use mathlib.Core.Path.{sym, ◌∙◌}
use mathlib.Core.List.{List}
use Prim.Native.Nat.{ℕ}
use Rattle.promises.specs.OneOutcome.{OneResult, OneOutcome}
use Rattle.promises.proofs.BothLists.{both_lists}
use Rattle.promises.proofs.AsOne.{as_one}
use Rattle.verriblom.proofs.verriblom_answer.Kinds as verriblom_answer_kinds
use Rattle.verriblom.proofs.verriblom_answer.Reads as verriblom_answer_reads
use Rattle.verriblom.proofs.verriblom_answers.Kinds as verriblom_answers_kinds
use Rattle.verriblom.proofs.verriblom_answers.Reads as verriblom_answers_reads
use Rattle.verriblom.proofs.verriblom_write.Kinds as verriblom_write_kinds
use Rattle.verriblom.proofs.verriblom_write.Reads as verriblom_write_reads
use Rattle.verriblom.proofs.verriblom_accept.Kinds as verriblom_accept_kinds
use Rattle.verriblom.proofs.verriblom_accept.Reads as verriblom_accept_reads
use Rattle.verriblom.proofs.verriblom_saturation.Kinds as verriblom_saturation_kinds
use Rattle.verriblom.proofs.verriblom_saturation.Reads as verriblom_saturation_reads

-- the bytes as well
pub verriblom_answer_one : OneOutcome _ verriblom_answer_kinds.ps verriblom_answer_kinds.r (List ℕ) (λ κs e. e.1.0.now) verriblom_answer_reads.Learnt
verriblom_answer_one κs a x y e f p q = (p.0 ∙ sym q.0, p.1 ∙ sym q.1)

-- the output and the code list as well
pub verriblom_answers_one : OneOutcome _ verriblom_answers_kinds.ps verriblom_answers_kinds.r (List ℕ × List ℕ) (λ κs e. (e.1.0.now, e.1.1.0.now)) verriblom_answers_reads.Learnt
verriblom_answers_one κs a x y e f p q = both_lists p q

-- the buffer as well
pub verriblom_write_one : OneOutcome _ verriblom_write_kinds.ps verriblom_write_kinds.r (List ℕ) (λ κs e. e.1.1.1.1.0.now) verriblom_write_reads.Learnt
verriblom_write_one κs a x y e f p q = as_one p q

pub verriblom_accept_one : OneResult _ verriblom_accept_kinds.ps verriblom_accept_kinds.r verriblom_accept_reads.Learnt
verriblom_accept_one κs a x y e f p q = p ∙ sym q

-- the output as well
pub verriblom_saturation_one : OneOutcome _ verriblom_saturation_kinds.ps verriblom_saturation_kinds.r (List ℕ) (λ κs e. e.1.1.0.now) verriblom_saturation_reads.Learnt
verriblom_saturation_one κs a x y e f p q = as_one p q
