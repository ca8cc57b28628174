-- Each public call of the crate `sums` promises one outcome: its contract gives it by a definition of its arguments.
use mathlib.Core.Path.{sym, ◌∙◌}
use Rattle.promises.specs.OneOutcome.{OneResult}
use Rattle.sums.proofs.sums_at.Kinds as sums_at_kinds
use Rattle.sums.proofs.sums_at.Reads as sums_at_reads

pub sums_at_one : OneResult _ sums_at_kinds.ps sums_at_kinds.r sums_at_reads.Learnt
sums_at_one κs a x y e f p q = p ∙ sym q
