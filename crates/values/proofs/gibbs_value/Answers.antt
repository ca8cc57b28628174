-- `gibbs_value` meets its contract: squash goes through each operation. Assumes nothing.
use mathlib.Core.Path.{◌∙◌}
use Rattle.arithmetic.proofs.Operations.{operations}
use Rattle.values.specs.Values.{gibbs_value}
use Rattle.values.proofs.gibbs_value.Goals as goal

pub returns : goal.returns
unfolding gibbs_value
returns c =
    c.squash.ensures ∙ simp (operations, c.single_numbers-gas.ensures, c.gibbs_over_rt.ensures)
