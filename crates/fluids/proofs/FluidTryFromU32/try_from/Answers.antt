-- `Fluid::try_from` meets its contract, number by number. Assumes nothing.
use mathlib.Core.Path.{refl}
use borrow.Author.Tests.{ne_eqb}
use Rattle.fluids.specs.Entries.{fluid_numbered}
use Rattle.fluids.proofs.FluidTryFromU32.try_from.Goals as goal

pub returns-in-0 : goal.returns-in-0
unfolding fluid_numbered
returns-in-0 c = rw c.in-0.is refl

pub returns-in-1 : goal.returns-in-1
unfolding fluid_numbered
returns-in-1 c = rw c.in-1.is refl

pub returns-in_default : goal.returns-in_default
unfolding fluid_numbered
returns-in_default c =
    simp (ne_eqb _ _ c.in_default.in_default-own.rest.1, ne_eqb _ _ c.in_default.in_default-own.rest.0.1)
