-- `sweep_up` meets its contract: the places 0 .. j hold the greatest so far, the others what they held.
use mathlib.Core.Path.{◌≡◌}
use Prim.Native.Nat.{◌+◌}
use Rattle.search.specs.Lists.{greatest, filled}
use Rattle.search.specs.Quick.{entries_of}
use Rattle.lists.proofs.sweep_up.Given as goal

abbrev pub invariant-loop-j : goal.invariant-loop-j
invariant-loop-j l = l.list ≡ filled (greatest (entries_of l.initial.list)) (l.j + 1) l.initial.list
