-- A question for the density of a fluid at T, by either search and from either side; and what the word of an answer says.
use Rattle.std.specs.Prelude.{◌≡◌, true, false, List, ℕ, Float, Result, Err}
use Rattle.std.specs.Float.Ieee.{lt, le}
use Rattle.refusals.specs.declared.Refusal.{Refusal}
use Rattle.fluids.specs.declared.Fluid.{Fluid}
use Rattle.fluids.specs.Entries.{entry_of}
use Rattle.search.specs.declared.Side.{Side}
use Rattle.search.specs.declared.Word.{Word}
use Rattle.search.specs.declared.Word.TheVariants.{Vapour, Liquid}
use Rattle.search.specs.declared.Found.{Found}
use Rattle.inputs.specs.Numbered.{by_number}
use Rattle.density.specs.Calls.{plain_of, quick_of}

pub data Asked : Type 0 where
  Plain : (P : Float) (c : ℕ) (side : Side) → Asked
  Quick : (P : Float) (c : ℕ) (side : Side) (greatest least : List Float) → Asked

-- what the fluid F is found to have
abbrev pub found_of : Fluid → Float → Asked → Result Found Refusal
found_of F T (Plain P c side) = plain_of F T P c side
found_of F T (Quick P c side greatest least) = quick_of F T P c side greatest least

-- the fluid of the number n: `plain_by` and `quick_by`, as the two calls promise them
abbrev pub found_by : ℕ → Float → Asked → Result Found Refusal
found_by n T asked = by_number Err n (λ F. found_of F T asked)

-- fluid says that T is not below Tc; the other two that it is, and on which side of the critical density the state lies, itself a liquid's
abbrev pub Says : Fluid → Float → Float → Word → Type 0
Says F T density Word.Fluid = le (entry_of F).Tc T ≡ true
Says F T density Vapour = (le (entry_of F).Tc T ≡ false) × (lt density (entry_of F).ρc ≡ true)
Says F T density Liquid = (le (entry_of F).Tc T ≡ false) × (lt density (entry_of F).ρc ≡ false)
