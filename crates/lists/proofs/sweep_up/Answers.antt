-- `sweep_up` meets its contract: the places 0 .. j hold the greatest so far, the others what they held.
use mathlib.Core.Path.{sym, ◌∙◌}
use native.Mathlib.Omega.{arith}
use Rattle.search.proofs.Filling.{fill_end}
use Rattle.lists.proofs.InRoom.{up_in_room, up_without}
use Rattle.lists.proofs.Sweeps.{up_start, up_next}
use Rattle.lists.proofs.sweep_up.Goals as goal

pub returns-then-list-c : goal.returns-then-list-c
returns-then-list-c c = up_without _ _ (omega arith)

pub loop-j-init : goal.loop-j-init
loop-j-init c = up_start _

pub loop-j-preserved : goal.loop-j-preserved
loop-j-preserved c = up_next c.args.list.now c.loop-j.list c.loop-j.j (omega arith) c.loop-j.invariant _ c.greater.ensures

pub returns : goal.returns
returns c =
    fill_end _ _ _ _ c.loop-j.invariant _ (omega arith) ∙ sym (up_in_room c.args.c c.args.list.now (omega arith))
