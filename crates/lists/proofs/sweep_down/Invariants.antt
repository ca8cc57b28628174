-- `sweep_down` meets its contract: the places from j to c hold the least from there on, the others what they held.
use mathlib.Core.Path.{◌≡◌}
use Prim.Native.Nat.{◌+◌}
use Rattle.search.specs.Lists.{filled}
use Rattle.lists.proofs.Sweeps.{swept}
use Rattle.lists.proofs.sweep_down.Given as goal

abbrev pub invariant-loop-j : goal.invariant-loop-j
invariant-loop-j l = l.list ≡ filled (swept l.initial.list l.c l.j) (l.c + 1) l.initial.list
