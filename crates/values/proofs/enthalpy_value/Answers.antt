-- `enthalpy_value` meets its contract: squash goes through each operation. Assumes nothing.
use mathlib.Core.Path.{◌∙◌}
use Rattle.arithmetic.proofs.Operations.{operations}
use Rattle.arithmetic.proofs.Literals.{lit_1}
use Rattle.values.specs.Values.{enthalpy_value}
use Rattle.values.proofs.enthalpy_value.Goals as goal

pub returns : goal.returns
unfolding enthalpy_value
returns c =
    c.squash.ensures ∙ simp (operations, lit_1, c.single_numbers-gas.ensures, c.i1_of.ensures)
