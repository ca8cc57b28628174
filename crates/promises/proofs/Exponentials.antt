-- Each public call of the crate `exponentials` promises one outcome: its contract gives it by a definition of its arguments.
use mathlib.Core.Path.{sym, ◌∙◌}
use Prim.Native.Nat.{ℕ}
use mir.Syntax.{w64}
use mir.Val.{Fits}
use Rattle.promises.specs.OneOutcome.{OneResult}
use Rattle.exponentials.proofs.exp.Kinds as exp_kinds
use Rattle.exponentials.proofs.exp.Reads as exp_reads
use Rattle.exponentials.proofs.joined.Kinds as joined_kinds
use Rattle.exponentials.proofs.joined.Reads as joined_reads
use Rattle.exponentials.proofs.exps.Kinds as exps_kinds
use Rattle.exponentials.proofs.exps.Reads as exps_reads

pub exp_one : OneResult _ exp_kinds.ps exp_kinds.r exp_reads.Learnt
exp_one κs a x y e f p q = p ∙ sym q

pub joined_one : OneResult _ joined_kinds.ps joined_kinds.r joined_reads.Learnt
joined_one κs a x y e f p q = p ∙ sym q

-- however many
pub exps_one : (N : ℕ) (fits : Fits w64 N) → let learnt = exps_reads.Learnt in OneResult _ (exps_kinds.ps N fits) (exps_kinds.r N fits) (learnt N fits)
exps_one N fits κs a x y e f p q = p ∙ sym q
