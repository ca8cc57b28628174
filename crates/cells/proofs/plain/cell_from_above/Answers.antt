-- `cell_from_above` meets its contract: no cell is found yet, and what the visit of the ends under j gives is what the whole search gives. Assumes nothing.
use mathlib.Core.Path.{refl, sym, ◌∙◌}
use mathlib.Core.Bool.{true, false}
use native.Mathlib.Omega.{arith}
use Rattle.search.specs.Plain.{cell_from_above}
use Rattle.search.proofs.Turns.{down_turn, down_end}
use Rattle.steps.proofs.Seen.{nan_seen, le_seen}
use Rattle.cells.proofs.plain.cell_from_above.Goals as goal

pub returns-then-is_nan : goal.returns-then-is_nan
unfolding cell_from_above
returns-then-is_nan c = sym (simp (nan_seen _ _ true c.end_pressure-top.ensures c.is_nan.ensures.value c.if-is_nan.true))

pub returns-then-top-p : goal.returns-then-top-p
unfolding cell_from_above
returns-then-top-p c =
    sym (simp (nan_seen _ _ false c.end_pressure-top.ensures c.is_nan.ensures.value c.if-is_nan.false, le_seen _ _ true c.end_pressure-top.ensures _ c.if-top-p.true))

pub loop-j-init : goal.loop-j-init
unfolding cell_from_above
loop-j-init c =
    (refl, sym (simp (nan_seen _ _ false c.end_pressure-top.ensures c.is_nan.ensures.value c.if-is_nan.false, le_seen _ _ false c.end_pressure-top.ensures _ c.if-top-p.false)))

pub returns-then-is_nan-2 : goal.returns-then-is_nan-2
returns-then-is_nan-2 c =
    sym (sym c.loop-j.invariant.1 ∙ down_turn _ _ _ (omega arith) ∙ simp (nan_seen _ _ true c.end_pressure-pressure.ensures c.is_nan-in-loop-j.ensures.value c.if-is_nan-2.true))

pub returns-then-pressure-p : goal.returns-then-pressure-p
returns-then-pressure-p c =
    sym (sym c.loop-j.invariant.1 ∙ down_turn _ _ _ (omega arith) ∙ simp (nan_seen _ _ false c.end_pressure-pressure.ensures c.is_nan-in-loop-j.ensures.value c.if-is_nan-2.false, le_seen _ _ true c.end_pressure-pressure.ensures _ c.if-pressure-p.true))

pub loop-j-preserved : goal.loop-j-preserved
loop-j-preserved c =
    (c.loop-j.invariant.0, sym (sym c.loop-j.invariant.1 ∙ down_turn _ _ _ (omega arith) ∙ simp (nan_seen _ _ false c.end_pressure-pressure.ensures c.is_nan-in-loop-j.ensures.value c.if-is_nan-2.false, le_seen _ _ false c.end_pressure-pressure.ensures _ c.if-pressure-p.false)))

pub returns-after-loop-j : goal.returns-after-loop-j
returns-after-loop-j c = c.loop-j.invariant.0 ∙ sym (sym c.loop-j.invariant.1 ∙ down_end _ _ _ (omega arith))
