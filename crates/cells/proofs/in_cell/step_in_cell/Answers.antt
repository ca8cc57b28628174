-- `step_in_cell` meets its contract: in the most cells 23 halvings begin with a bracket, and beyond them the first middle gives 12.
-- Assumes nothing.
use mathlib.Core.Path.{sym, ap, ◌∙◌}
use native.Mathlib.Omega.{arith}
use Rattle.std.proofs.lemmas.Result.{err_from_is_err_and}
use Rattle.search.specs.InCell.{in_cell}
use Rattle.search.proofs.BracketKept.{cell_bracket}
use Rattle.cells.proofs.Beyond.{beyond_the_cells}
use Rattle.cells.proofs.in_cell.step_in_cell.Goals as goal

pub returns-then-j-ge-MOST_CELLS : goal.returns-then-j-ge-MOST_CELLS
returns-then-j-ge-MOST_CELLS c = sym (ap (in_cell _ _) c.in_ok-j.was ∙ beyond_the_cells _ _ _ (omega arith))

pub halve-requires : goal.halve-requires
halve-requires c = cell_bracket _ _ _ (omega arith)

pub returns : goal.returns
unfolding in_cell
returns c = c.halve.ensures ∙ ap (in_cell _ _) (sym c.in_ok-j.was)

pub returns-in_err-j : goal.returns-in_err-j
unfolding in_cell
returns-in_err-j c =
    let p = err_from_is_err_and c.from_residual.result c.from_residual.ensures.1 in
    rw (p.1, p.2) (ap (in_cell _ _) (sym c.in_err-j.was))
