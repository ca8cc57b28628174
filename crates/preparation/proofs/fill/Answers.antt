-- `fill` meets its contract. The invariant: both lists hold the pressures in the places under j and none of them gave 12. Assumes nothing.
use mathlib.Core.Path.{◌≡◌, refl}
use mathlib.Core.Bool.{true, false}
use Prim.Native.Nat.{◌+◌}
use native.Mathlib.Omega.{arith}
use Rattle.steps.proofs.Inside.{at_end}
use Rattle.search.proofs.Filling.{fill_start, fill_length, fill_next, fill_end}
use Rattle.search.proofs.PreparationFails.{fails_exactly}
use Rattle.search.proofs.Turns.{not_finite_start, not_finite_turn}
use Rattle.steps.proofs.Seen.{nan_seen}
use Rattle.preparation.proofs.fill.Goals as goal

pub loop-j-init : goal.loop-j-init
loop-j-init c = (omega arith, not_finite_start _, fill_start _ _, fill_start _ _)

pub returns-then-is_nan : goal.returns-then-is_nan
returns-then-is_nan c =
    let here = nan_seen _ _ true (at_end _ c.loop-j.j _ (omega arith) c.end_pressure-pressure.ensures) c.is_nan.ensures.value c.if-is_nan.true in
    (refl, (fails_exactly _ _).1 (c.loop-j.j, omega arith, here), (c.loop-j.j, omega arith, c.loop-j.invariant.2, c.loop-j.invariant.3))

pub offset_bounds-greatest-j : goal.offset_bounds-greatest-j
offset_bounds-greatest-j c = omega arith

pub bounds-greatest-j : goal.bounds-greatest-j
bounds-greatest-j c = omega (arith, fill_length _ _ _ _ c.loop-j.invariant.2)

pub offset_bounds-least-j : goal.offset_bounds-least-j
offset_bounds-least-j c = omega arith

pub bounds-least-j : goal.bounds-least-j
bounds-least-j c = omega (arith, fill_length _ _ _ _ c.loop-j.invariant.3)

pub loop-j-preserved : goal.loop-j-preserved
loop-j-preserved c =
    let e = at_end _ c.loop-j.j _ (omega arith) c.end_pressure-pressure.ensures in (
      omega arith,
      not_finite_turn _ _ c.loop-j.invariant.1 (nan_seen _ _ false e c.is_nan.ensures.value c.if-is_nan.false),
      fill_next _ _ _ _ c.loop-j.invariant.2 _ (omega arith) e,
      fill_next _ _ _ _ c.loop-j.invariant.3 _ (omega arith) e,
    )

pub shape_of-greatest : goal.shape_of-greatest
shape_of-greatest c = fill_length _ _ _ _ c.loop-j.invariant.2

pub shape_of-least : goal.shape_of-least
shape_of-least c = fill_length _ _ _ _ c.loop-j.invariant.3

pub returns-else-is_nan : goal.returns-else-is_nan
returns-else-is_nan c =
    let e = at_end _ c.loop-j.j _ (omega arith) c.end_pressure-pressure.ensures in
    let all : c.loop-j.j + 1 ≡ c.args.c + 1 = omega arith in (
      rw all at (not_finite_turn _ _ c.loop-j.invariant.1 (nan_seen _ _ false e c.is_nan.ensures.value c.if-is_nan.false)),
      fill_end _ _ _ _ (fill_next _ _ _ _ c.loop-j.invariant.2 _ (omega arith) e) _ all,
      fill_end _ _ _ _ (fill_next _ _ _ _ c.loop-j.invariant.3 _ (omega arith) e) _ all,
    )
