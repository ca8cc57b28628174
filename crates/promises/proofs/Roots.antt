-- Each public call of the crate `roots` promises one outcome: its contract gives it by a definition of its arguments.
use mathlib.Core.Path.{sym, ◌∙◌}
use Rattle.promises.specs.OneOutcome.{OneResult}
use Rattle.roots.proofs.root.Kinds as root_kinds
use Rattle.roots.proofs.root.Reads as root_reads

pub root_one : OneResult _ root_kinds.ps root_kinds.r root_reads.Learnt
root_one κs a x y e f p q = p ∙ sym q
