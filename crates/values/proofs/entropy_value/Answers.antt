-- `entropy_value` meets its contract: squash goes through each operation. Assumes nothing.
use mathlib.Core.Path.{◌∙◌}
use Rattle.arithmetic.proofs.Operations.{operations}
use Rattle.values.specs.Values.{entropy_value}
use Rattle.values.proofs.entropy_value.Goals as goal

pub returns : goal.returns
unfolding entropy_value
returns c =
    c.squash.ensures ∙ simp (operations, c.single_numbers-gas.ensures, c.i1_of.ensures, c.i0_of.ensures)
