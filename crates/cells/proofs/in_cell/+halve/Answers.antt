-- `halve` meets its contract, by one halving and then itself: the bracket is kept, and the distance of its ends is the measure.
-- Assumes nothing.
use Rattle.std.proofs.Common.{◌<◌, sym, ◌∙◌, true, false, arith}
use borrow.Author.Tests.{eq-eqb, ne_eqb}
use Rattle.search.proofs.BracketKept.{upper_half, lower_half, upper_half_narrower, lower_half_narrower}
use Rattle.search.proofs.Turns.{halved_turn, halved_end}
use Rattle.steps.proofs.Seen.{nan_seen, le_seen}
use Rattle.cells.proofs.in_cell.+halve.Goals as goal

pub returns-then-upper-lower-eq1 : goal.returns-then-upper-lower-eq1
returns-then-upper-lower-eq1 t c = sym (halved_end _ _ _ _ _ c.if-left-eq0.true ∙ simp (eq-eqb _ _ c.if-upper-lower-eq1.true))

pub returns-then-left-eq0 : goal.returns-then-left-eq0
returns-then-left-eq0 t c = sym (halved_end _ _ _ _ _ c.if-left-eq0.true ∙ simp (ne_eqb _ _ c.if-upper-lower-eq1.false))

pub returns-then-is_nan : goal.returns-then-is_nan
returns-then-is_nan t c = sym (halved_turn _ _ _ _ _ (omega arith) ∙ simp (nan_seen _ _ true c.step_pressure-pressure.ensures c.is_nan.ensures.value c.if-is_nan.true))

pub halve-requires : goal.halve-requires
halve-requires t c =
    let b = c.requires in
    let more : 0 < c.args.left = omega arith in (
      omega (arith, c.decreases, upper_half_narrower _ _ _ _ _ more b),
      upper_half _ _ _ _ _ more b (le_seen _ _ true c.step_pressure-pressure.ensures _ c.if-pressure-p.true),
    )

pub halve-requires-else-pressure-p : goal.halve-requires-else-pressure-p
halve-requires-else-pressure-p t c =
    let e = c.step_pressure-pressure.ensures in
    let b = c.requires in
    let more : 0 < c.args.left = omega arith in (
      omega (arith, c.decreases, lower_half_narrower _ _ _ _ _ more b),
      lower_half _ _ _ _ _ more b (nan_seen _ _ false e c.is_nan.ensures.value c.if-is_nan.false) (le_seen _ _ false e _ c.if-pressure-p.false),
    )

pub returns-then-pressure-p : goal.returns-then-pressure-p
returns-then-pressure-p t c =
    let e = c.step_pressure-pressure.ensures in
    c.halve.ensures
    ∙ sym (halved_turn _ _ _ _ _ (omega arith) ∙ simp (nan_seen _ _ false e c.is_nan.ensures.value c.if-is_nan.false, le_seen _ _ true e _ c.if-pressure-p.true))

pub returns-else-pressure-p : goal.returns-else-pressure-p
returns-else-pressure-p t c =
    let e = c.step_pressure-pressure.ensures in
    c.halve-else-pressure-p.ensures
    ∙ sym (halved_turn _ _ _ _ _ (omega arith) ∙ simp (nan_seen _ _ false e c.is_nan.ensures.value c.if-is_nan.false, le_seen _ _ false e _ c.if-pressure-p.false))
