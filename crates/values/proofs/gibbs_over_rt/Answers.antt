-- `gibbs_over_rt` meets its contract: squash goes through each operation. Assumes nothing.
use mathlib.Core.Path.{◌∙◌}
use Rattle.arithmetic.proofs.Operations.{operations}
use Rattle.arithmetic.proofs.Literals.{lit_1}
use Rattle.values.specs.Values.{gibbs_over_RT}
use Rattle.values.proofs.gibbs_over_rt.Goals as goal

pub returns : goal.returns
unfolding gibbs_over_RT
returns c =
    c.squash.ensures ∙ simp (operations, lit_1, c.i0_of.ensures)
