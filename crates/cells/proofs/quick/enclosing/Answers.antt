-- `enclosing` meets its contract: its tests are those of the definition, one after the other. Assumes nothing.
use mathlib.Core.Path.{sym}
use mathlib.Core.Bool.{true, false}
use Rattle.search.specs.Plain.{end_step}
use Rattle.search.specs.Quick.{enclosing}
use Rattle.steps.proofs.Inside.{number_inside}
use Rattle.steps.proofs.Seen.{nan_seen, le_seen, lt_seen}
use native.Mathlib.Omega.{arith}
use Rattle.cells.proofs.quick.enclosing.Goals as goal
use Rattle.cells.proofs.quick.enclosing.Goals.{else-low-p-via-then-low-p+else-p-high, else-low-p-via-else-low-p}

-- the pressure at a was a number, so a lies in the most cells
pub returns-then-is_nan : goal.returns-then-is_nan
unfolding enclosing
returns-then-is_nan c = sym (simp (nan_seen _ _ true c.end_pressure-low.ensures c.is_nan.ensures.value c.if-is_nan.true))

pub overflow_add-a : goal.overflow_add-a
overflow_add-a c = omega (arith, number_inside _ (end_step c.args.a) (nan_seen _ _ false c.end_pressure-low.ensures c.is_nan.ensures.value c.if-is_nan.false))

pub returns-then-is_nan-2 : goal.returns-then-is_nan-2
unfolding enclosing
returns-then-is_nan-2 c =
    sym (simp (nan_seen _ _ false c.end_pressure-low.ensures c.is_nan.ensures.value c.if-is_nan.false, nan_seen _ _ true c.end_pressure-high.ensures c.is_nan-2.ensures.value c.if-is_nan-2.true))

pub returns-then-p-high : goal.returns-then-p-high
unfolding enclosing
returns-then-p-high c =
    let low = nan_seen _ _ false c.end_pressure-low.ensures c.is_nan.ensures.value c.if-is_nan.false in
    let high = nan_seen _ _ false c.end_pressure-high.ensures c.is_nan-2.ensures.value c.if-is_nan-2.false in
    sym (simp (low, high, le_seen _ _ true c.end_pressure-low.ensures _ c.if-low-p.true, lt_seen _ _ true c.end_pressure-high.ensures _ c.if-p-high.true))

pub returns : goal.returns
unfolding enclosing
returns c =
    let low = nan_seen _ _ false c.end_pressure-low.ensures c.is_nan.ensures.value c.if-is_nan.false in
    let high = nan_seen _ _ false c.end_pressure-high.ensures c.is_nan-2.ensures.value c.if-is_nan-2.false in
    elim c.else-low-p.branch [
      | else-low-p-via-then-low-p+else-p-high w ↦ sym (simp (low, high, le_seen _ _ true c.end_pressure-low.ensures _ w.if-low-p.true, lt_seen _ _ false c.end_pressure-high.ensures _ w.if-p-high.false))
      | else-low-p-via-else-low-p w ↦ sym (simp (low, high, le_seen _ _ false c.end_pressure-low.ensures _ w.if-low-p.false))
    ]
