-- `energy_value` meets its contract: squash goes through each operation. Assumes nothing.
use mathlib.Core.Path.{◌∙◌}
use Rattle.arithmetic.proofs.Operations.{operations}
use Rattle.values.specs.Values.{energy_value}
use Rattle.values.proofs.energy_value.Goals as goal

pub returns : goal.returns
unfolding energy_value
returns c =
    c.squash.ensures ∙ simp (operations, c.single_numbers-gas.ensures, c.i1_of.ensures)
