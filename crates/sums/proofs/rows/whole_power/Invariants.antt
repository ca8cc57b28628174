-- `whole_power` meets its contract: p is the product of the factors so far. Assumes nothing.
use mathlib.Core.Path.{◌≡◌}
use Rattle.arithmetic.specs.Checked.{squash}
use Rattle.elementary.specs.Power.{◌↑◌}
use Rattle.sums.proofs.rows.whole_power.Given as goal

abbrev pub invariant-loop : goal.invariant-loop
invariant-loop l = squash l.p ≡ squash l.x ↑ l.counter
