-- `isobaric_value` meets its contract: squash goes through each operation, and the divisor is tested. Assumes nothing.
use mathlib.Core.Path.{◌∙◌}
use Rattle.arithmetic.proofs.Operations.{operations}
use Rattle.stability.specs.Stability.{isobaric_from}
use Rattle.stability.proofs.isobaric_value.Goals as goal

pub returns : goal.returns
unfolding isobaric_from
returns c =
    c.squash.ensures ∙ simp (operations, c.over.ensures, c.single_numbers-gas.ensures)
