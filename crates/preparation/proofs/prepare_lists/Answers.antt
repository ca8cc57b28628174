-- `prepare_lists` meets its contract: both lists filled and swept, or filled up to the first end that gives 12 and cleared. Assumes
-- nothing.
use mathlib.Core.Path.{◌∙◌}
use native.Mathlib.Omega.{arith}
use Rattle.lists.proofs.InRoom.{up_in_room, down_in_room, cleared_in_room}
use Rattle.preparation.proofs.Outcomes.{lists_ready, lists_cleared}
use Rattle.preparation.proofs.prepare_lists.Goals as goal

pub returns-in-Ok : goal.returns-in-Ok
returns-in-Ok c =
    lists_ready _ _ _ _ _ _ _ _ _ c.in-Ok.is c.fill.ensures (omega arith) (omega arith) (c.sweep_up.ensures ∙ up_in_room _ _ (omega arith)) (c.sweep_down.ensures ∙ down_in_room _ _ (omega arith))

pub returns-in-Err : goal.returns-in-Err
returns-in-Err c =
    lists_cleared _ _ _ _ _ _ _ _ _ c.in-Err.is c.fill.ensures (c.clear.ensures ∙ cleared_in_room _ _ (omega arith)) (c.clear-in-Err.ensures ∙ cleared_in_room _ _ (omega arith))
