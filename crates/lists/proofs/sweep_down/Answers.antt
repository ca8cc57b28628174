-- `sweep_down` meets its contract: the places from j to c hold the least from there on, the others what they held.
use mathlib.Core.Path.{◌≡◌, sym, ◌∙◌}
use Prim.Native.Nat.{◌+◌, ◌-◌}
use native.Mathlib.Omega.{arith}
use Rattle.lists.proofs.InRoom.{down_in_room, down_without}
use Rattle.lists.proofs.Sweeps.{down_start, down_next, down_end}
use Rattle.lists.proofs.sweep_down.Goals as goal

pub returns-then-list-c : goal.returns-then-list-c
returns-then-list-c c = down_without _ _ (omega arith)

pub loop-j-init : goal.loop-j-init
loop-j-init c = down_start _ _

pub loop-j-preserved : goal.loop-j-preserved
loop-j-preserved c =
    let k = c.loop-j.j - 1 in
    let behind : k + 1 ≡ c.loop-j.j = omega arith in
    down_next c.args.list.now c.loop-j.list c.args.c k (omega arith) (omega arith) (rw (← behind) at c.loop-j.invariant) _ c.lesser.ensures

pub returns : goal.returns
returns c =
    let none : c.loop-j.j ≡ 0 = omega arith in
    (rw none at c.loop-j.invariant) ∙ down_end c.args.list.now c.args.c ∙ sym (down_in_room c.args.c c.args.list.now (omega arith))
