-- Each public call of the crate `arithmetic` promises one outcome: its contract gives it by a definition of its arguments.
use mathlib.Core.Path.{sym, ◌∙◌}
use Rattle.promises.specs.OneOutcome.{OneResult}
use Rattle.arithmetic.proofs.finite.Kinds as finite_kinds
use Rattle.arithmetic.proofs.finite.Reads as finite_reads
use Rattle.arithmetic.proofs.both_finite.Kinds as both_finite_kinds
use Rattle.arithmetic.proofs.both_finite.Reads as both_finite_reads
use Rattle.arithmetic.proofs.between.Kinds as between_kinds
use Rattle.arithmetic.proofs.between.Reads as between_reads
use Rattle.arithmetic.proofs.squash.Kinds as squash_kinds
use Rattle.arithmetic.proofs.squash.Reads as squash_reads
use Rattle.arithmetic.proofs.over.Kinds as over_kinds
use Rattle.arithmetic.proofs.over.Reads as over_reads
use Rattle.arithmetic.proofs.answer_from.Kinds as answer_from_kinds
use Rattle.arithmetic.proofs.answer_from.Reads as answer_from_reads

pub finite_one : OneResult _ finite_kinds.ps finite_kinds.r finite_reads.Learnt
finite_one κs a x y e f p q = p ∙ sym q

pub both_finite_one : OneResult _ both_finite_kinds.ps both_finite_kinds.r both_finite_reads.Learnt
both_finite_one κs a x y e f p q = p ∙ sym q

pub between_one : OneResult _ between_kinds.ps between_kinds.r between_reads.Learnt
between_one κs a x y e f p q = p ∙ sym q

pub squash_one : OneResult _ squash_kinds.ps squash_kinds.r squash_reads.Learnt
squash_one κs a x y e f p q = p ∙ sym q

pub over_one : OneResult _ over_kinds.ps over_kinds.r over_reads.Learnt
over_one κs a x y e f p q = p ∙ sym q

pub answer_from_one : OneResult _ answer_from_kinds.ps answer_from_kinds.r answer_from_reads.Learnt
answer_from_one κs a x y e f p q = p ∙ sym q
