-- `pairs_that_differ` meets its contract. The invariant: the count is that of the pressures so far, of at most two pairs each.
-- Assumes nothing.
use mathlib.Core.Path.{◌≡◌}
use Prim.Native.Nat.{◌*◌, ◌≤◌}
use Rattle.isotherm.specs.Pairs.{differing}
use Rattle.isotherm.proofs.pairs.pairs_that_differ.Given as goal

abbrev pub invariant-loop-n : goal.invariant-loop-n
invariant-loop-n l = (l.count ≤ 2 * l.n) × (l.count ≡ differing l.number l.t l.c l.greatest l.least l.n)
