-- `data_of` meets its contract: the data of the code are those of the definition, fluid by fluid, by computing both. Assumes nothing.
use mathlib.Core.Path.{refl}
use lib.Ieee.{of_bits, of_int, round, neg}
use Rattle.arithmetic.specs.Checked.{minus}
use Rattle.fluids.specs.R245ca.{r245ca}
use Rattle.fluids.specs.R245fa.{r245fa}
use Rattle.fluids.specs.Entries.{entry_of}
use Rattle.fluids.proofs.data_of.Goals as goal

pub returns-in-R245ca : goal.returns-in-R245ca
unfolding entry_of r245ca of_bits of_int round neg minus
returns-in-R245ca c = rw c.in-R245ca.is (refl, refl, refl, refl, refl, refl)

pub returns-in-R245fa : goal.returns-in-R245fa
unfolding entry_of r245fa of_bits of_int round neg minus
returns-in-R245fa c = rw c.in-R245fa.is (refl, refl, refl, refl, refl, refl)
