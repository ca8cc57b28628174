-- `cell_from_below` meets its contract: no cell is found yet, and what the visit from end j on gives is what the whole visit gives. Assumes nothing.
use mathlib.Core.Path.{refl, sym, ◌∙◌}
use mathlib.Core.Bool.{true, false}
use native.Mathlib.Omega.{arith}
use Rattle.search.proofs.Turns.{up_start, up_turn, up_end}
use Rattle.steps.proofs.Seen.{nan_seen, lt_seen}
use Rattle.cells.proofs.plain.cell_from_below.Goals as goal

pub loop-j-init : goal.loop-j-init
loop-j-init c = (refl, up_start _ _ _)

pub returns-then-is_nan : goal.returns-then-is_nan
returns-then-is_nan c =
    sym (sym c.loop-j.invariant.1 ∙ up_turn _ _ _ _ c.loop-j-test.true ∙ simp (nan_seen _ _ true c.end_pressure-pressure.ensures c.is_nan.ensures.value c.if-is_nan.true))

pub loop-j-preserved : goal.loop-j-preserved
loop-j-preserved c =
    (c.loop-j.invariant.0, sym (sym c.loop-j.invariant.1 ∙ up_turn _ _ _ _ c.loop-j-test.true ∙ simp (nan_seen _ _ false c.end_pressure-pressure.ensures c.is_nan.ensures.value c.if-is_nan.false, lt_seen _ _ false c.end_pressure-pressure.ensures c.args.p c.if-pressure-p.false)))

pub returns-then-pressure-p : goal.returns-then-pressure-p
returns-then-pressure-p c =
    sym (sym c.loop-j.invariant.1 ∙ up_turn _ _ _ _ c.loop-j-test.true ∙ simp (nan_seen _ _ false c.end_pressure-pressure.ensures c.is_nan.ensures.value c.if-is_nan.false, lt_seen _ _ true c.end_pressure-pressure.ensures c.args.p c.if-pressure-p.true))

pub returns-after-loop-j : goal.returns-after-loop-j
returns-after-loop-j c = c.loop-j.invariant.0 ∙ sym (sym c.loop-j.invariant.1 ∙ up_end _ _ _ _ (omega arith))
