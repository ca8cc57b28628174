-- `fill` meets its contract. The invariant: both lists hold the pressures in the places under j and none of them gave 12. Assumes nothing.
use mathlib.Core.Path.{◌≡◌}
use mathlib.Core.Bool.{false}
use Prim.Native.Nat.{◌+◌, ◌≤◌}
use Rattle.search.specs.Plain.{at_ends}
use Rattle.search.specs.Lists.{some_not_finite, filled}
use Rattle.steps.specs.Steps.{step_pressure_of}
use Rattle.preparation.proofs.fill.Given as goal

abbrev pub invariant-loop-j : goal.invariant-loop-j
invariant-loop-j l =
    let q = at_ends (step_pressure_of l.kept) in
    (l.j ≤ l.c + 1) × (some_not_finite q l.j ≡ false) × (l.greatest ≡ filled q l.j l.initial.greatest) × (l.least ≡ filled q l.j l.initial.least)
