-- Beyond the most cells a cell's step is 12: the first middle lies there too, and its pressure is a NaN.
use mathlib.Core.Path.{◌≡◌, ◌∙◌}
use Prim.Native.Nat.{ℕ, ◌+◌, ◌/◌, ◌≤◌}
use native.Mathlib.Omega.{arith}
use lib.Ieee.{Float}
use Rattle.std.specs.Prelude.{Ok, Err}
use Rattle.refusals.specs.declared.Refusal.TheVariants.{WorkNotFinite}
use Rattle.fluids.specs.Entry.{most_cells}
use Rattle.kept.specs.declared.Kept.{Kept}
use Rattle.search.specs.Plain.{end_step}
use Rattle.search.specs.InCell.{in_cell}
use Rattle.search.proofs.Turns.{halved_turn}
use Rattle.steps.specs.Steps.{pressure_in_steps}
use Rattle.steps.proofs.Inside.{nan_beyond}

pub beyond_the_cells : (kept : Kept) (P : Float) (j : ℕ) → most_cells ≤ j → in_cell (pressure_in_steps kept) P (Ok j) ≡ Err WorkNotFinite
unfolding in_cell
beyond_the_cells kept P j h =
    halved_turn (pressure_in_steps kept) P 23 (end_step j) (end_step (j + 1)) (omega arith)
    ∙ simp (nan_beyond kept ((end_step j + end_step (j + 1)) / 2) (omega arith))
