-- The search for a cell by the side that it starts from.
use Rattle.std.specs.Prelude.{List, ℕ, Float, Result}
use Rattle.refusals.specs.declared.Refusal.{Refusal}
use Rattle.search.specs.declared.Side.{Side}
use Rattle.search.specs.declared.Side.TheVariants.{FromBelow, FromAbove}
use Rattle.search.specs.Plain.{at_ends, cell_from_below, cell_from_above}
use Rattle.search.specs.Quick.{entries_of, quick_cell}

-- plain; q j is the pressure at the coarse end j
abbrev pub plain_cell_of : Side → (ℕ → Float) → Float → ℕ → Result ℕ Refusal
plain_cell_of FromBelow q P c = cell_from_below q P c
plain_cell_of FromAbove q P c = cell_from_above q P c

-- from below the entries of G are read, from above those of L
abbrev pub entries_by : Side → List Float → List Float → ℕ → Float
entries_by FromBelow greatest least = entries_of greatest
entries_by FromAbove greatest least = entries_of least

-- quick, over the entries of the list that the side reads; p k is the pressure at the step k
abbrev pub quick_cell_of : Side → List Float → List Float → (ℕ → Float) → Float → ℕ → Result ℕ Refusal
quick_cell_of side greatest least p P c = quick_cell (entries_by side greatest least) (at_ends p) P c
