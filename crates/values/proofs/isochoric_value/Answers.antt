-- `isochoric_value` meets its contract: squash goes through each operation. Assumes nothing.
use mathlib.Core.Path.{◌∙◌}
use Rattle.arithmetic.proofs.Operations.{operations}
use Rattle.stability.specs.Stability.{«V»}
use Rattle.values.specs.Values.{isochoric_value}
use Rattle.values.proofs.isochoric_value.Goals as goal

pub returns : goal.returns
unfolding isochoric_value «V»
returns c =
    c.squash.ensures ∙ simp (operations, c.single_numbers-gas.ensures, c.i2.ensures)
