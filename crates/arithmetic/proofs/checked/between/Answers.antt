-- `between` meets its contract: its two tests are those of the definition. Assumes nothing.
use mathlib.Core.Path.{◌≡◌}
use mathlib.Core.Bool.{true, false}
use lib.Ieee.{le}
use Rattle.arithmetic.proofs.checked.between.Goals as goal

pub returns-then-lo-x : goal.returns-then-lo-x
returns-then-lo-x c =
    let not_below : le c.args.lo c.args.x ≡ true = c.if-lo-x.true in
    simp not_below

pub returns-else-lo-x : goal.returns-else-lo-x
returns-else-lo-x c =
    let below : le c.args.lo c.args.x ≡ false = c.if-lo-x.false in
    simp below
