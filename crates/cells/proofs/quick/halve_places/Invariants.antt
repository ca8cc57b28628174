-- `halve_places` meets its contract. The invariant: halving from a and b ends where halving from 0 and c does; the measure is b − a.
-- Assumes nothing.
use mathlib.Core.Path.{◌≡◌}
use Prim.Native.Nat.{◌-◌, ◌≤◌}
use Rattle.search.specs.Quick.{entries_of, above, halved_places}
use Rattle.cells.proofs.quick.halve_places.Given as goal

abbrev pub invariant-loop-b : goal.invariant-loop-b
invariant-loop-b l =
    let u = above l.p (entries_of l.list) in
    (l.a ≤ l.b) × (l.b ≤ l.c) × (halved_places u l.c l.a l.b ≡ halved_places u l.c 0 l.c)

abbrev pub decreases-loop-b : goal.decreases-loop-b
decreases-loop-b l = l.b - l.a
