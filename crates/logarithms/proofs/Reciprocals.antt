-- The sheet of 1/n, n = 1, 3, .. 21, is the list of 01's quotients, one fact that is computed for the whole table: so it has at each place the quotient that the steps ask for.
use mathlib.Core.Path.{◌≡◌, refl, ap, ◌∙◌}
use mathlib.Core.List.{List, [], ◌∷◌}
use Prim.Native.Nat.{ℕ, zero, suc, ◌+◌, ◌*◌, ◌<◌}
use native.Mathlib.Nat.{le_of_suc-le-suc, not-suc-le-zero}
use lib.ListN.{get_or}
use lib.Ieee.{Float, nan, of_bits, of_int, round, div}
use Rattle.arithmetic.specs.Checked.{real, squash, ◌⊘◌}
use Rattle.logarithms.specs.declared.TheConstants.{RECIPROCALS}
use Rattle.arithmetic.proofs.Operations.{⊘_squashed}

-- f 0, f 1, .., so many of them
unfoldable pub listed : (ℕ → Float) → ℕ → List Float
listed f zero = []
listed f (suc count) = f 0 ∷ listed (λ k. f (suc k)) count

listed_at : (f : ℕ → Float) (count k : ℕ) → k < count → get_or (listed f count) k nan ≡ f k
unfolding listed
listed_at f zero k h = absurd (not-suc-le-zero h)
listed_at f (suc count) zero h = refl
listed_at f (suc count) (suc k) h = listed_at (λ i. f (suc i)) count k (le_of_suc-le-suc h)

-- 1/n for n = 2·k + 1, as the definition of ln has it
abbrev pub quotient : ℕ → Float
quotient k = real 1 ⊘ real (2 * k + 1)

-- each of the eleven numbers is its quotient, in every bit
abbrev pub IsSheet : List Float → Type 0
IsSheet table = table ≡ listed quotient 11

pub sheet : IsSheet RECIPROCALS
unfolding listed ◌⊘◌ of_bits of_int round div
sheet = refl

-- the number at the place k of such a table is 1/n for n = 2·k + 1
pub sheet_at : (table : List Float) → IsSheet table → (k : ℕ) → k < 11 → squash (get_or table k nan) ≡ quotient k
sheet_at table e k h =
    ap (λ (xs : List Float). squash (get_or xs k nan)) e ∙ ap squash (listed_at quotient 11 k h) ∙ ⊘_squashed (real 1) (real (2 * k + 1))

-- and of the code's own table
pub reciprocal_at : (k : ℕ) → k < 11 → squash (get_or RECIPROCALS k nan) ≡ quotient k
reciprocal_at = sheet_at RECIPROCALS sheet
