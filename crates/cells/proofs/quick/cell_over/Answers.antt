-- `cell_over` meets its contract, by whether the list has a place c and whether that is above P. Assumes nothing.
use mathlib.Core.Path.{sym}
use native.Mathlib.Omega.{arith}
use Rattle.search.specs.Quick.{entries_of, quick_cell}
use Rattle.search.proofs.Turns.{quick_turn, quick_without}
use Rattle.cells.proofs.quick.cell_over.Goals as goal
use Rattle.cells.proofs.quick.cell_over.Goals.{else-c-list-via-then-c-list+else-list-c, else-c-list-via-else-c-list}

pub returns-then-list-c : goal.returns-then-list-c
returns-then-list-c c =
    quick_turn (entries_of c.args.list.now) _ c.args.p c.args.c _ _ c.if-list-c.true c.halve_places.ensures c.enclosing.ensures

pub returns : goal.returns
unfolding quick_cell
returns c =
    elim c.else-c-list.branch [
      | else-c-list-via-then-c-list+else-list-c w ↦ sym (simp w.if-list-c.false)
      | else-c-list-via-else-c-list w ↦ sym (quick_without c.args.list.now _ c.args.p c.args.c (omega arith))
    ]
