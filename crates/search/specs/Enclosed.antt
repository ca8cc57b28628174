-- Neighbours that enclose P, and a list of cells of which none does: what the theorems of the searches speak of.
use Rattle.std.specs.Prelude.{◌≡◌, true, ℕ, ◌+◌, ◌<◌, Float}
use Rattle.std.specs.Float.Ieee.{lt, le}

-- q k ≤ P < q (k + 1), and k is below top
pub record Encloses (q : ℕ → Float) (P : Float) (top k : ℕ) : Type 0 where
  pub below_top : k < top
  pub low : le (q k) P ≡ true
  pub high : lt P (q (k + 1)) ≡ true

-- no coarse cell under c encloses P
abbrev pub NoCellEncloses : (ℕ → Float) → Float → ℕ → Type 0
NoCellEncloses q P c = (j : ℕ) → j < c → le (q j) P ≡ true → lt P (q (j + 1)) ≡ true → ⊥
