-- What the doors take for a fluid and a side, and what they hand to C: a number for an answer or a search, and a total over a
-- list of densities.
use Rattle.std.specs.Prelude.{cond, List, ℕ, zero, suc, eqb, Float, length, get_or, Result, Ok, Err}
use Rattle.std.specs.Float.{nan, binary64}
use Rattle.std.specs.Float.Ieee.{add}
use Rattle.refusals.specs.Answer.{Answer}
use Rattle.arithmetic.specs.Checked.{real}
use Rattle.refusals.specs.declared.Refusal.{Refusal}
use Rattle.fluids.specs.declared.Fluid.{Fluid}
use Rattle.inputs.specs.Numbered.{by_number}
use Rattle.kept.specs.Kept.{kept_of}
use Rattle.equation.specs.State.{pressure_at}
use Rattle.density.specs.Calls.{plain_by, quick_by}
use Rattle.search.specs.declared.Side.{Side}
use Rattle.search.specs.declared.Side.TheVariants.{FromBelow, FromAbove}
use Rattle.search.specs.declared.Found.{Found}

-- the number of an answer, and `nan` where it is a refusal
abbrev pub number_of : Answer → Float
number_of (Ok x) = x
number_of (Err r) = nan

-- the density that a search found, and `nan` where it is a refusal
abbrev pub found_density : Result Found Refusal → Float
found_density (Ok found) = found.density
found_density (Err r) = nan

-- 0 is from below, any other number from above
abbrev pub side_of : ℕ → Side
side_of n = cond (eqb n 0) FromBelow FromAbove

-- the searches as the doors ask them: the fluid and the side each by its number
abbrev pub plain_from : ℕ → Float → Float → ℕ → ℕ → Result Found Refusal
plain_from number t P c side = plain_by number t P c (side_of side)

abbrev pub quick_from : ℕ → Float → Float → ℕ → ℕ → List Float → List Float → Result Found Refusal
quick_from number t P c side greatest least = quick_by number t P c (side_of side) greatest least

-- the sum of f over the first i entries, from 0 and in their order
unfoldable pub total_to : (Float → Float) → List Float → ℕ → Float
total_to f xs zero = real 0
total_to f xs (suc i) = add binary64 (total_to f xs i) (f (get_or xs i nan))

-- the sum of the pressures of a fluid at the temperature t and each of the densities
abbrev pub total_of : Fluid → Float → List Float → Float
total_of F t densities = total_to (pressure_at (kept_of F t)) densities (length densities)

-- the same for the fluid of a number, and `nan` where no fluid has it
abbrev pub isotherm_of : ℕ → Float → List Float → Float
isotherm_of number t densities = by_number (λ (r : Refusal). nan) number (λ F. total_of F t densities)
