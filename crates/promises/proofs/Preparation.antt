-- Each public call of the crate `preparation` promises one outcome: its contract gives it by a definition of its arguments.
use mathlib.Core.List.{List}
use lib.Ieee.{Float}
use Rattle.promises.specs.OneOutcome.{OneOutcome}
use Rattle.promises.proofs.BothLists.{both_lists}
use Rattle.preparation.proofs.prepare.Kinds as prepare_kinds
use Rattle.preparation.proofs.prepare.Reads as prepare_reads

-- both lists as well
pub prepare_one : OneOutcome _ prepare_kinds.ps prepare_kinds.r (List Float × List Float) (λ κs e. (e.1.1.1.0.now, e.1.1.1.1.0.now)) prepare_reads.Learnt
prepare_one κs a x y e f p q = both_lists p q
