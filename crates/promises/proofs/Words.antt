-- Each public call of the crate `words` promises one outcome: its contract gives it by a definition of its arguments.
use mathlib.Core.Path.{refl, sym, ◌∙◌}
use mathlib.Core.List.{List}
use Prim.Native.Nat.{ℕ}
use Rattle.promises.specs.OneOutcome.{OneResult, OneOutcome}
use Rattle.words.proofs.word.Kinds as word_kinds
use Rattle.words.proofs.word.Reads as word_reads
use Rattle.words.proofs.put_word.Kinds as put_word_kinds
use Rattle.words.proofs.put_word.Reads as put_word_reads
use Rattle.words.proofs.number.Kinds as number_kinds
use Rattle.words.proofs.number.Reads as number_reads
use Rattle.words.proofs.bits.Kinds as bits_kinds
use Rattle.words.proofs.bits.Reads as bits_reads

pub word_one : OneResult _ word_kinds.ps word_kinds.r word_reads.Learnt
word_one κs a x y e f p q = p ∙ sym q

pub number_one : OneResult _ number_kinds.ps number_kinds.r number_reads.Learnt
number_one κs a x y e f p q = p ∙ sym q

pub bits_one : OneResult _ bits_kinds.ps bits_kinds.r bits_reads.Learnt
bits_one κs a x y e f p q = p ∙ sym q

-- the bytes as well
pub put_word_one : OneOutcome _ put_word_kinds.ps put_word_kinds.r (List ℕ) (λ κs e. e.0.now) put_word_reads.Learnt
put_word_one κs a x y e f p q = (refl, p ∙ sym q)
