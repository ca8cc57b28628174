-- `halve_places` meets its contract. The invariant: halving from a and b ends where halving from 0 and c does; the measure is b − a.
-- Assumes nothing.
use mathlib.Core.Path.{refl, sym, ◌∙◌}
use native.Mathlib.Omega.{arith}
use Rattle.search.proofs.Turns.{places_down, places_up, places_end}
use Rattle.cells.proofs.quick.halve_places.Goals as goal

pub loop-b-init : goal.loop-b-init
loop-b-init c = (omega arith, omega arith, refl)

pub overflow_sub-b : goal.overflow_sub-b
overflow_sub-b c = omega arith

pub overflow_add-middle : goal.overflow_add-middle
overflow_add-middle c = omega arith

pub offset_bounds-list-middle : goal.offset_bounds-list-middle
offset_bounds-list-middle c = omega arith

pub bounds-list-middle : goal.bounds-list-middle
bounds-list-middle c = omega arith

pub loop-b-smaller-then-list-middle : goal.loop-b-smaller-then-list-middle
loop-b-smaller-then-list-middle c = omega arith

pub loop-b-preserved-then-list-middle : goal.loop-b-preserved-then-list-middle
loop-b-preserved-then-list-middle c =
    (omega arith, omega arith, places_down _ _ _ _ (omega arith) (omega arith) c.if-list-middle.true ∙ c.loop-b.invariant.2)

pub loop-b-smaller : goal.loop-b-smaller
loop-b-smaller c = omega arith

pub loop-b-preserved : goal.loop-b-preserved
loop-b-preserved c =
    (omega arith, omega arith, places_up _ _ _ _ (omega arith) (omega arith) c.if-list-middle.false ∙ c.loop-b.invariant.2)

pub returns : goal.returns
returns c = sym (places_end _ _ _ _ (omega arith)) ∙ c.loop-b.invariant.2
