-- Each public call of the crate `cells` promises one outcome: its contract gives it by a definition of its arguments.
use mathlib.Core.Path.{sym, ◌∙◌}
use Rattle.promises.specs.OneOutcome.{OneResult}
use Rattle.cells.proofs.plain_cell.Kinds as plain_cell_kinds
use Rattle.cells.proofs.plain_cell.Reads as plain_cell_reads
use Rattle.cells.proofs.quick_cell.Kinds as quick_cell_kinds
use Rattle.cells.proofs.quick_cell.Reads as quick_cell_reads
use Rattle.cells.proofs.step_in_cell.Kinds as step_in_cell_kinds
use Rattle.cells.proofs.step_in_cell.Reads as step_in_cell_reads

pub plain_cell_one : OneResult _ plain_cell_kinds.ps plain_cell_kinds.r plain_cell_reads.Learnt
plain_cell_one κs a x y e f p q = p ∙ sym q

pub quick_cell_one : OneResult _ quick_cell_kinds.ps quick_cell_kinds.r quick_cell_reads.Learnt
quick_cell_one κs a x y e f p q = p ∙ sym q

pub step_in_cell_one : OneResult _ step_in_cell_kinds.ps step_in_cell_kinds.r step_in_cell_reads.Learnt
step_in_cell_one κs a x y e f p q = p ∙ sym q
