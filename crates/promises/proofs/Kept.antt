-- Each public call of the crate `kept` promises one outcome: its contract gives it by a definition of its arguments.
use mathlib.Core.Path.{sym, ◌∙◌}
use Rattle.promises.specs.OneOutcome.{OneResult}
use Rattle.kept.proofs.keep.Kinds as keep_kinds
use Rattle.kept.proofs.keep.Reads as keep_reads

pub keep_one : OneResult _ keep_kinds.ps keep_kinds.r keep_reads.Learnt
keep_one κs a x y e f p q = p ∙ sym q
