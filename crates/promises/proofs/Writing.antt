-- Each public call of the crate `writing` promises one outcome: its contract gives it by a definition of its arguments.
use mathlib.Core.List.{List}
use Prim.Native.Nat.{ℕ}
use Rattle.refusals.proofs.ReadBack.{same_permit}
use Rattle.promises.specs.OneOutcome.{OneOutcome}
use Rattle.promises.proofs.AsOne.{as_one}
use Rattle.writing.proofs.write.Kinds as write_kinds
use Rattle.writing.proofs.write.Reads as write_reads

-- the buffer as well
pub write_one : OneOutcome _ write_kinds.ps write_kinds.r (List ℕ) (λ κs e. e.1.1.1.1.0.now) write_reads.Learnt
write_one κs a x y e f p q = let both = as_one p q in (same_permit both.0, both.1)
