-- Each public call of the crate `density` promises one outcome: its contract gives it by a definition of its arguments.
use mathlib.Core.Path.{sym, ◌∙◌}
use Rattle.promises.specs.OneOutcome.{OneResult}
use Rattle.density.proofs.plain.Kinds as plain_kinds
use Rattle.density.proofs.plain.Reads as plain_reads
use Rattle.density.proofs.plain_of.Kinds as plain_of_kinds
use Rattle.density.proofs.plain_of.Reads as plain_of_reads
use Rattle.density.proofs.quick.Kinds as quick_kinds
use Rattle.density.proofs.quick.Reads as quick_reads

pub plain_one : OneResult _ plain_kinds.ps plain_kinds.r plain_reads.Learnt
plain_one κs a x y e f p q = p ∙ sym q

pub plain_of_one : OneResult _ plain_of_kinds.ps plain_of_kinds.r plain_of_reads.Learnt
plain_of_one κs a x y e f p q = p ∙ sym q

pub quick_one : OneResult _ quick_kinds.ps quick_kinds.r quick_reads.Learnt
quick_one κs a x y e f p q = p ∙ sym q
