-- Up to the most cells a search over the pressures that the code works, `nan` beyond them, is the search over the equation's: it asks for
-- none beyond. And the step that it finds lies there.
use mathlib.Core.Path.{◌≡◌, refl, ap, ◌∙◌}
use Prim.Native.Nat.{ℕ, ◌+◌, ◌≤◌, ◌<◌}
use native.Mathlib.Omega.{arith}
use lib.Ieee.{Float}
use Rattle.std.specs.Prelude.{Result, Ok, Err}
use Rattle.refusals.specs.declared.Refusal.{Refusal}
use Rattle.fluids.specs.Entry.{most_cells}
use Rattle.kept.specs.declared.Kept.{Kept}
use Rattle.search.specs.declared.Side.{Side}
use Rattle.search.specs.Plain.{end_step, at_ends}
use Rattle.search.specs.InCell.{in_cell}
use Rattle.search.specs.Quick.{quick_cell}
use Rattle.search.specs.Searches.{quick_step}
use Rattle.search.specs.BySide.{plain_cell_of}
use Rattle.search.proofs.BracketKept.{halved_inside}
use Rattle.search.proofs.Under.{plain_cell_under, quick_cell_under}
use Rattle.search.proofs.Alike.{plain_alike, quick_alike, in_cell_alike}
use Rattle.steps.specs.Steps.{step_pressure_of, pressure_in_steps}
use Rattle.steps.proofs.Inside.{pressure_inside}
use Rattle.density.specs.Calls.{plain_step_of}
use Rattle.density.specs.Granted.{StepInside}

-- ---- found steps lie inside, whatever the pressures are

module _ (p : ℕ → Float) (P : Float) (c : ℕ) (few : c ≤ most_cells) where
  each_inside : (y : Result ℕ Refusal) → ((k : ℕ) → y ≡ Ok k → k ≤ end_step most_cells) → StepInside y
  each_inside (Ok k) step = step k refl
  each_inside (Err r) step = tt

  step_inside : (x : Result ℕ Refusal) → ((j : ℕ) → x ≡ Ok j → j < c) → StepInside (in_cell p P x)
  unfolding in_cell
  step_inside (Ok j) under = each_inside _ (λ k e. omega (arith, under j refl, halved_inside p P 23 (end_step j) (end_step (j + 1)) k (omega arith) e))
  step_inside (Err r) under = tt

  pub plain_inside : (side : Side) → StepInside (plain_step_of side p P c)
  plain_inside side = step_inside (plain_cell_of side (at_ends p) P c) (λ j. plain_cell_under (at_ends p) P c j side)

  pub quick_inside : (f : ℕ → Float) → 1 ≤ c → StepInside (quick_step f p P c)
  quick_inside f some = step_inside (quick_cell f (at_ends p) P c) (λ j. quick_cell_under (at_ends p) P c j f some)

-- ---- and are those over the equation's pressures

module _ (kept : Kept) (P : Float) (c : ℕ) (few : c ≤ most_cells) where
  at_ends_lem : (j : ℕ) → j ≤ most_cells → at_ends (pressure_in_steps kept) j ≡ at_ends (step_pressure_of kept) j
  at_ends_lem j h = pressure_inside kept (end_step j) (omega arith)

  in_cell_lem : (x : Result ℕ Refusal) → ((j : ℕ) → x ≡ Ok j → j < c) → in_cell (pressure_in_steps kept) P x ≡ in_cell (step_pressure_of kept) P x
  in_cell_lem x under = in_cell_alike (pressure_in_steps kept) (step_pressure_of kept) most_cells (pressure_inside kept) P x (λ j e. omega (arith, under j e))

  pub plain_guarded : (side : Side) → plain_step_of side (pressure_in_steps kept) P c ≡ plain_step_of side (step_pressure_of kept) P c
  plain_guarded side =
      in_cell_lem (plain_cell_of side (at_ends (pressure_in_steps kept)) P c) (λ j. plain_cell_under (at_ends (pressure_in_steps kept)) P c j side)
      ∙ ap (in_cell (step_pressure_of kept) P) (plain_alike _ _ most_cells at_ends_lem P side c few)

  pub quick_guarded : (f : ℕ → Float) → 1 ≤ c → quick_step f (pressure_in_steps kept) P c ≡ quick_step f (step_pressure_of kept) P c
  quick_guarded f some =
      in_cell_lem (quick_cell f (at_ends (pressure_in_steps kept)) P c) (λ j. quick_cell_under (at_ends (pressure_in_steps kept)) P c j f some)
      ∙ ap (in_cell (step_pressure_of kept) P) (quick_alike _ _ most_cells at_ends_lem P f c some few)
