-- `cell_from_above` meets its contract: no cell is found yet, and what the visit of the ends under j gives is what the whole search gives. Assumes nothing.
use mathlib.Core.Path.{◌≡◌}
use Rattle.std.specs.Prelude.{Err}
use Rattle.refusals.specs.declared.Refusal.TheVariants.{NoCell}
use Rattle.search.specs.Plain.{at_ends, visit_down, cell_from_above}
use Rattle.steps.specs.Steps.{pressure_in_steps}
use Rattle.cells.proofs.plain.cell_from_above.Given as goal

abbrev pub invariant-loop-j : goal.invariant-loop-j
invariant-loop-j l =
    let q = at_ends (pressure_in_steps l.kept) in
    (l.cell ≡ Err NoCell) × (visit_down q l.p l.j ≡ cell_from_above q l.p l.c)
