-- In the most cells what the code gives for a step is the definition's, and beyond them it is `nan`: by the one test.
use mathlib.Core.Path.{◌≡◌, refl, sym, ap, ◌∙◌}
use mathlib.Core.Bool.{Bool, true, false, true≢false}
use Prim.Native.Nat.{ℕ, ◌≤◌, ◌<◌}
use native.Mathlib.Omega.{arith}
use borrow.Author.Tests.{le-leb, lt-leb, leb-true, leb-false}
use lib.Dec.{leb}
use lib.Ieee.{Float, nan, is_nan}
use Rattle.fluids.specs.Entry.{most_cells}
use Rattle.kept.specs.declared.Kept.{Kept}
use Rattle.search.specs.Plain.{end_step, at_ends}
use Rattle.steps.specs.Steps.{in_steps, step_pressure_of, pressure_in_steps}

module _ (k : ℕ) (x : Float) where
  pub step_inside : k ≤ end_step most_cells → in_steps k x ≡ x
  unfolding in_steps
  step_inside h = simp (le-leb _ _ h)

  pub step_beyond : end_step most_cells < k → nan ≡ in_steps k x
  unfolding in_steps
  step_beyond h = sym (simp (lt-leb _ _ h))

-- a worked density inside is the definition's
pub at_step : (r : Float) (k : ℕ) (x : Float) → k ≤ end_step most_cells → r ≡ in_steps k x → r ≡ x
at_step r k x h e = e ∙ step_inside k x h

-- ---- pressures

module _ (kept : Kept) (k : ℕ) where
  pub pressure_inside : k ≤ end_step most_cells → pressure_in_steps kept k ≡ step_pressure_of kept k
  unfolding pressure_in_steps
  pressure_inside h = step_inside k _ h

  pub pressure_beyond : end_step most_cells < k → nan ≡ pressure_in_steps kept k
  unfolding pressure_in_steps
  pressure_beyond h = step_beyond k _ h

  pub nan_beyond : end_step most_cells < k → is_nan (pressure_in_steps kept k) ≡ true
  unfolding is_nan
  nan_beyond h = ap is_nan (sym (pressure_beyond h))

  -- so a number is met inside only
  pub number_inside : is_nan (pressure_in_steps kept k) ≡ false → k ≤ end_step most_cells
  number_inside n = go (leb k (end_step most_cells)) refl
    where
      go : (b : Bool) → leb k (end_step most_cells) ≡ b → k ≤ end_step most_cells
      go true t = leb-true _ _ t
      go false t = absurd (true≢false (sym (nan_beyond (leb-false _ _ t)) ∙ n))

-- a worked pressure at an end inside is the definition's
pub at_end : (r : Float) (j : ℕ) (kept : Kept) → j ≤ most_cells → r ≡ at_ends (pressure_in_steps kept) j → r ≡ at_ends (step_pressure_of kept) j
at_end r j kept h e = e ∙ pressure_inside kept (end_step j) (omega arith)
