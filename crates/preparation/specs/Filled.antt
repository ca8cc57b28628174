-- What the filling of both lists leaves, for the sweeps after it.
use Rattle.std.specs.Prelude.{◌≡◌, true, false, List, ℕ, ◌+◌, ◌≤◌, Float, Ok, Err}
use Rattle.refusals.specs.declared.Refusal.TheVariants.{WorkNotFinite}
use Rattle.refusals.specs.Answer.{Permit}
use Rattle.search.specs.Lists.{some_not_finite, filled}

-- what the filling of both lists leaves: all pressures of the ends 0 .. c, or 12 and those before the first that gives it
abbrev pub Filled : (ℕ → Float) → ℕ → List Float → List Float → Permit → List Float → List Float → Type 0
Filled q c g₀ l₀ (Ok _) g l = (some_not_finite q (c + 1) ≡ false) × (g ≡ filled q (c + 1) g₀) × (l ≡ filled q (c + 1) l₀)
Filled q c g₀ l₀ (Err r) g l = (r ≡ WorkNotFinite) × (some_not_finite q (c + 1) ≡ true) × ((n : ℕ) × (n ≤ c + 1) × (g ≡ filled q n g₀) × (l ≡ filled q n l₀))
