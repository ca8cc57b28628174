-- `cell_from_below` meets its contract: no cell is found yet, and what the visit from end j on gives is what the whole visit gives. Assumes nothing.
use mathlib.Core.Path.{◌≡◌}
use Prim.Native.Nat.{◌-◌}
use Rattle.std.specs.Prelude.{Err}
use Rattle.refusals.specs.declared.Refusal.TheVariants.{NoCell}
use Rattle.search.specs.Plain.{at_ends, visit_up, cell_from_below}
use Rattle.steps.specs.Steps.{pressure_in_steps}
use Rattle.cells.proofs.plain.cell_from_below.Given as goal

abbrev pub invariant-loop-j : goal.invariant-loop-j
invariant-loop-j l =
    let q = at_ends (pressure_in_steps l.kept) in
    (l.cell ≡ Err NoCell) × (visit_up q l.p (l.c - l.j) l.j ≡ cell_from_below q l.p l.c)
