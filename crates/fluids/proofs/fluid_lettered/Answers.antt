-- `fluid_lettered` meets its contract, letter by letter. Assumes nothing.
use mathlib.Core.Path.{refl}
use borrow.Author.Tests.{ne_eqb}
use Rattle.fluids.specs.Entries.{letter_of, fluid_lettered}
use Rattle.fluids.proofs.fluid_lettered.Goals as goal

pub returns-in-84 : goal.returns-in-84
unfolding letter_of fluid_lettered
returns-in-84 c = rw c.in-84.is refl

pub returns-in-70 : goal.returns-in-70
unfolding letter_of fluid_lettered
returns-in-70 c = rw c.in-70.is refl

pub returns-in_default : goal.returns-in_default
unfolding letter_of fluid_lettered
returns-in_default c =
    simp (ne_eqb _ _ c.in_default.in_default-own.rest.1, ne_eqb _ _ c.in_default.in_default-own.rest.0.1)
