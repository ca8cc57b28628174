-- Each public call of the crate `coexistence` promises one outcome: its contract gives it by a definition of its arguments.
use mathlib.Core.Path.{sym, ◌∙◌}
use mathlib.Core.List.{List}
use Prim.Native.Nat.{ℕ}
use Rattle.refusals.proofs.ReadBack.{same_permit}
use Rattle.promises.specs.OneOutcome.{OneResult, OneOutcome}
use Rattle.promises.proofs.AsOne.{as_one}
use Rattle.coexistence.proofs.accept.Kinds as accept_kinds
use Rattle.coexistence.proofs.accept.Reads as accept_reads
use Rattle.coexistence.proofs.saturation_pair.Kinds as saturation_pair_kinds
use Rattle.coexistence.proofs.saturation_pair.Reads as saturation_pair_reads
use Rattle.coexistence.proofs.saturation_into.Kinds as saturation_into_kinds
use Rattle.coexistence.proofs.saturation_into.Reads as saturation_into_reads

pub accept_one : OneResult _ accept_kinds.ps accept_kinds.r accept_reads.Learnt
accept_one κs a x y e f p q = p ∙ sym q

pub saturation_pair_one : OneResult _ saturation_pair_kinds.ps saturation_pair_kinds.r saturation_pair_reads.Learnt
saturation_pair_one κs a x y e f p q = p ∙ sym q

-- the output as well
pub saturation_into_one : OneOutcome _ saturation_into_kinds.ps saturation_into_kinds.r (List ℕ) (λ κs e. e.1.1.0.now) saturation_into_reads.Learnt
saturation_into_one κs a x y e f p q = let both = as_one p q in (same_permit both.0, both.1)
