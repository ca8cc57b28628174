-- Each public call of the crate `logarithms` promises one outcome: its contract gives it by a definition of its arguments.
use mathlib.Core.Path.{sym, ◌∙◌}
use Rattle.promises.specs.OneOutcome.{OneResult}
use Rattle.logarithms.proofs.ln.Kinds as ln_kinds
use Rattle.logarithms.proofs.ln.Reads as ln_reads

pub ln_one : OneResult _ ln_kinds.ps ln_kinds.r ln_reads.Learnt
ln_one κs a x y e f p q = p ∙ sym q
