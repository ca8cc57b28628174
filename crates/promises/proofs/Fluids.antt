-- Each public call of the crate `fluids` promises one outcome: its contract gives it by a definition of its arguments.
use mathlib.Core.Path.{sym, ◌∙◌}
use Rattle.promises.specs.OneOutcome.{OneResult, OneSlice}
use Rattle.fluids.specs.declared.Estimate.{Estimate}
use Rattle.fluids.proofs.FluidTryFromU32.try_from.Kinds as try_from_kinds
use Rattle.fluids.proofs.FluidTryFromU32.try_from.Reads as try_from_reads
use Rattle.fluids.proofs.letter.Kinds as letter_kinds
use Rattle.fluids.proofs.letter.Reads as letter_reads
use Rattle.fluids.proofs.fluid_lettered.Kinds as fluid_lettered_kinds
use Rattle.fluids.proofs.fluid_lettered.Reads as fluid_lettered_reads
use Rattle.fluids.proofs.single_numbers.Kinds as single_numbers_kinds
use Rattle.fluids.proofs.single_numbers.Reads as single_numbers_reads
use Rattle.fluids.proofs.terms.Kinds as terms_kinds
use Rattle.fluids.proofs.terms.Reads as terms_reads
use Rattle.fluids.proofs.pairs.Kinds as pairs_kinds
use Rattle.fluids.proofs.pairs.Reads as pairs_reads
use Rattle.fluids.proofs.estimate_terms.Kinds as estimate_terms_kinds
use Rattle.fluids.proofs.estimate_terms.Reads as estimate_terms_reads

pub try_from_one : OneResult _ try_from_kinds.ps try_from_kinds.r try_from_reads.Learnt
try_from_one κs a x y e f p q = p ∙ sym q

pub letter_one : OneResult _ letter_kinds.ps letter_kinds.r letter_reads.Learnt
letter_one κs a x y e f p q = p ∙ sym q

pub fluid_lettered_one : OneResult _ fluid_lettered_kinds.ps fluid_lettered_kinds.r fluid_lettered_reads.Learnt
fluid_lettered_one κs a x y e f p q = p ∙ sym q

pub single_numbers_one : OneResult _ single_numbers_kinds.ps single_numbers_kinds.r single_numbers_reads.Learnt
single_numbers_one κs a x y e f p q = p ∙ sym q

pub terms_one : OneResult _ terms_kinds.ps terms_kinds.r terms_reads.Learnt
terms_one κs a x y e f p q = p ∙ sym q

pub pairs_one : OneResult _ pairs_kinds.ps pairs_kinds.r pairs_reads.Learnt
pairs_one κs a x y e f p q = p ∙ sym q

pub estimate_terms_one : OneSlice _ estimate_terms_kinds.ps estimate_terms_kinds.r Estimate (λ κs terms. terms.now) estimate_terms_reads.Learnt
estimate_terms_one κs a x y e f p q = p ∙ sym q
