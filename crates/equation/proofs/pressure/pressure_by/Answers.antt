-- `pressure_by` meets its contract: squash goes through each operation, and none of them sees it. Assumes nothing.
use mathlib.Core.Path.{◌∙◌}
use Rattle.arithmetic.proofs.Operations.{operations}
use Rattle.arithmetic.proofs.Literals.{lit_1, lit_1000}
use Rattle.equation.proofs.pressure.pressure_by.Goals as goal

pub returns : goal.returns
returns c = c.squash.ensures ∙ simp (operations, lit_1, lit_1000)
