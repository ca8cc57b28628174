-- Each public call of the crates `probe_calls`, `probe_words` and `probe_replies` promises one outcome: its contract gives it by a definition of its arguments.
use mathlib.Core.Path.{sym, ◌∙◌}
use mathlib.Core.List.{List}
use Prim.Native.Nat.{ℕ}
use Rattle.promises.specs.OneOutcome.{OneResult, OneOutcome}
use Rattle.probe_calls.proofs.fluid_number.Kinds as fluid_number_kinds
use Rattle.probe_calls.proofs.fluid_number.Reads as fluid_number_reads
use Rattle.probe_calls.proofs.own_top.Kinds as own_top_kinds
use Rattle.probe_calls.proofs.own_top.Reads as own_top_reads
use Rattle.probe_calls.proofs.answer_of_numbers.Kinds as answer_of_numbers_kinds
use Rattle.probe_calls.proofs.answer_of_numbers.Reads as answer_of_numbers_reads
use Rattle.probe_words.proofs.number_reply.Kinds as number_reply_kinds
use Rattle.probe_words.proofs.number_reply.Reads as number_reply_reads
use Rattle.probe_words.proofs.asked_word.Kinds as asked_word_kinds
use Rattle.probe_words.proofs.asked_word.Reads as asked_word_reads
use Rattle.probe_replies.proofs.reply_to.Kinds as reply_to_kinds
use Rattle.probe_replies.proofs.reply_to.Reads as reply_to_reads
use Rattle.probe_replies.proofs.put_replies.Kinds as put_replies_kinds
use Rattle.probe_replies.proofs.put_replies.Reads as put_replies_reads

pub fluid_number_one : OneResult _ fluid_number_kinds.ps fluid_number_kinds.r fluid_number_reads.Learnt
fluid_number_one κs a x y e f p q = p.0 ∙ sym q.0

pub own_top_one : OneResult _ own_top_kinds.ps own_top_kinds.r own_top_reads.Learnt
own_top_one κs a x y e f p q = p ∙ sym q

pub answer_of_numbers_one : OneResult _ answer_of_numbers_kinds.ps answer_of_numbers_kinds.r answer_of_numbers_reads.Learnt
answer_of_numbers_one κs a x y e f p q = p ∙ sym q

pub number_reply_one : OneResult _ number_reply_kinds.ps number_reply_kinds.r number_reply_reads.Learnt
number_reply_one κs a x y e f p q = p ∙ sym q

pub asked_word_one : OneResult _ asked_word_kinds.ps asked_word_kinds.r asked_word_reads.Learnt
asked_word_one κs a x y e f p q = p ∙ sym q

pub reply_to_one : OneResult _ reply_to_kinds.ps reply_to_kinds.r reply_to_reads.Learnt
reply_to_one κs a x y e f p q = p ∙ sym q

-- the bytes as well
pub put_replies_one : OneOutcome _ put_replies_kinds.ps put_replies_kinds.r (List ℕ) (λ κs e. e.1.0.now) put_replies_reads.Learnt
put_replies_one κs a x y e f p q = (p.0 ∙ sym q.0, p.1 ∙ sym q.1)
