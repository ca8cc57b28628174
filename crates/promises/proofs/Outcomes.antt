-- Each public call of the crate `outcomes` promises one outcome: its contract gives it by a definition of its arguments.
use mathlib.Core.Path.{sym, ◌∙◌}
use Rattle.promises.specs.OneOutcome.{OneResult}
use Rattle.outcomes.proofs.found_answer.Kinds as found_answer_kinds
use Rattle.outcomes.proofs.found_answer.Reads as found_answer_reads
use Rattle.outcomes.proofs.found_bits.Kinds as found_bits_kinds
use Rattle.outcomes.proofs.found_bits.Reads as found_bits_reads
use Rattle.outcomes.proofs.word_number.Kinds as word_number_kinds
use Rattle.outcomes.proofs.word_number.Reads as word_number_reads
use Rattle.outcomes.proofs.found_word.Kinds as found_word_kinds
use Rattle.outcomes.proofs.found_word.Reads as found_word_reads

pub found_answer_one : OneResult _ found_answer_kinds.ps found_answer_kinds.r found_answer_reads.Learnt
found_answer_one κs a x y e f p q = p ∙ sym q

pub found_bits_one : OneResult _ found_bits_kinds.ps found_bits_kinds.r found_bits_reads.Learnt
found_bits_one κs a x y e f p q = p ∙ sym q

pub word_number_one : OneResult _ word_number_kinds.ps word_number_kinds.r word_number_reads.Learnt
word_number_one κs a x y e f p q = p ∙ sym q

pub found_word_one : OneResult _ found_word_kinds.ps found_word_kinds.r found_word_reads.Learnt
found_word_one κs a x y e f p q = p ∙ sym q
