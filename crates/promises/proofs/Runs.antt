-- Each public call of the crate `runs` promises one outcome: its contract gives it by a definition of its arguments.
use mathlib.Core.List.{List}
use Prim.Native.Nat.{ℕ}
use Rattle.refusals.proofs.ReadBack.{same_permit}
use Rattle.promises.specs.OneOutcome.{OneOutcome}
use Rattle.promises.proofs.BothLists.{both_lists}
use Rattle.runs.proofs.answers_into.Kinds as answers_into_kinds
use Rattle.runs.proofs.answers_into.Reads as answers_into_reads

-- the output and the code list as well
pub answers_into_one : OneOutcome _ answers_into_kinds.ps answers_into_kinds.r (List ℕ × List ℕ) (λ κs e. (e.1.0.now, e.1.1.0.now)) answers_into_reads.Learnt
answers_into_one κs a x y e f p q = let both = both_lists p q in (same_permit both.0, both.1)
