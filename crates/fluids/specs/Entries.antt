-- The entry of each fluid, its number, and the letter of its marks.
use Rattle.std.specs.Prelude.{cond, ℕ, eqb, Option, Some, None, Result, Ok, Err}
use Prim.Native.Char.{code}
use Rattle.refusals.specs.declared.Refusal.{Refusal}
use Rattle.refusals.specs.declared.Refusal.TheVariants.{UnknownFluid}
use Rattle.fluids.specs.declared.Fluid.{Fluid}
use Rattle.fluids.specs.declared.Fluid.TheVariants.{R245ca, R245fa}
use Rattle.fluids.specs.Entry.{Entry}
use Rattle.fluids.specs.R245ca.{r245ca}
use Rattle.fluids.specs.R245fa.{r245fa}

unfoldable pub entry_of : Fluid → Entry
entry_of R245ca = r245ca
entry_of R245fa = r245fa

-- 0 for R-245ca and 1 for R-245fa; no fluid has another number: 17
unfoldable pub fluid_numbered : ℕ → Result Fluid Refusal
fluid_numbered n = cond (eqb n 0) (Ok R245ca) (cond (eqb n 1) (Ok R245fa) (Err UnknownFluid))

-- the first letter of a record's mark: T for R-245ca and F for R-245fa
unfoldable pub letter_of : Fluid → ℕ
letter_of R245ca = code "T"
letter_of R245fa = code "F"

-- the fluid by that letter
unfoldable pub fluid_lettered : ℕ → Option Fluid
fluid_lettered b = cond (eqb b (letter_of R245ca)) (Some R245ca) (cond (eqb b (letter_of R245fa)) (Some R245fa) None)
