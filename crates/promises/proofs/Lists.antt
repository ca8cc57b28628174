-- Each public call of the crate `lists` promises one outcome: its contract gives it by a definition of its arguments.
use mathlib.Core.Path.{refl, sym, ◌∙◌}
use mathlib.Core.List.{List}
use lib.Ieee.{Float}
use Rattle.promises.specs.OneOutcome.{OneOutcome}
use Rattle.lists.proofs.sweep_up.Kinds as sweep_up_kinds
use Rattle.lists.proofs.sweep_up.Reads as sweep_up_reads
use Rattle.lists.proofs.sweep_down.Kinds as sweep_down_kinds
use Rattle.lists.proofs.sweep_down.Reads as sweep_down_reads
use Rattle.lists.proofs.clear.Kinds as clear_kinds
use Rattle.lists.proofs.clear.Reads as clear_reads

-- the list
pub sweep_up_one : OneOutcome _ sweep_up_kinds.ps sweep_up_kinds.r (List Float) (λ κs e. e.1.0.now) sweep_up_reads.Learnt
sweep_up_one κs a x y e f p q = (refl, p ∙ sym q)

-- the list
pub sweep_down_one : OneOutcome _ sweep_down_kinds.ps sweep_down_kinds.r (List Float) (λ κs e. e.1.0.now) sweep_down_reads.Learnt
sweep_down_one κs a x y e f p q = (refl, p ∙ sym q)

-- the list
pub clear_one : OneOutcome _ clear_kinds.ps clear_kinds.r (List Float) (λ κs e. e.1.0.now) clear_reads.Learnt
clear_one κs a x y e f p q = (refl, p ∙ sym q)
