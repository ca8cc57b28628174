-- Each public call of the crate `ideal` promises one outcome: its contract gives it by a definition of its arguments.
use mathlib.Core.Path.{sym, ◌∙◌}
use Rattle.promises.specs.OneOutcome.{OneResult}
use Rattle.ideal.proofs.i0.Kinds as i0_kinds
use Rattle.ideal.proofs.i0.Reads as i0_reads
use Rattle.ideal.proofs.i1.Kinds as i1_kinds
use Rattle.ideal.proofs.i1.Reads as i1_reads
use Rattle.ideal.proofs.i2.Kinds as i2_kinds
use Rattle.ideal.proofs.i2.Reads as i2_reads

pub i0_one : OneResult _ i0_kinds.ps i0_kinds.r i0_reads.Learnt
i0_one κs a x y e f p q = p ∙ sym q

pub i1_one : OneResult _ i1_kinds.ps i1_kinds.r i1_reads.Learnt
i1_one κs a x y e f p q = p ∙ sym q

pub i2_one : OneResult _ i2_kinds.ps i2_kinds.r i2_reads.Learnt
i2_one κs a x y e f p q = p ∙ sym q
