-- `letter` meets its contract, fluid by fluid. Assumes nothing.
use mathlib.Core.Path.{refl}
use Rattle.fluids.specs.Entries.{letter_of}
use Rattle.fluids.proofs.letter.Goals as goal

pub returns-in-R245ca : goal.returns-in-R245ca
unfolding letter_of
returns-in-R245ca c = rw c.in-R245ca.is refl

pub returns-in-R245fa : goal.returns-in-R245fa
unfolding letter_of
returns-in-R245fa c = rw c.in-R245fa.is refl
