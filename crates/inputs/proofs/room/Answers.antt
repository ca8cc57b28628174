-- `room` meets its contract: its two comparisons are those of both lengths. Assumes nothing.
use mathlib.Core.Path.{sym}
use borrow.Author.Tests.{lt-ltb, le-ltb}
use Rattle.inputs.specs.Inputs.{room_of}
use Rattle.inputs.proofs.room.Goals as goal

pub returns-then-c-n : goal.returns-then-c-n
unfolding room_of
returns-then-c-n c = sym (simp (lt-ltb _ _ c.if-c-n.true))

pub returns-else-c-n : goal.returns-else-c-n
unfolding room_of
returns-else-c-n c = sym (simp (le-ltb _ _ c.if-c-n.false))
