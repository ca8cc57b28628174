-- `damped_exponent` meets its contract: exp does not see whether its argument was squashed. Assumes nothing.
use mathlib.Core.Path.{◌∙◌, sym}
use Rattle.arithmetic.proofs.Operations.{operations}
use Rattle.exponentials.proofs.ExpRange.{exp_squash}
use Rattle.sums.proofs.rows.damped_exponent.Goals as goal

pub returns : goal.returns
returns c = sym (exp_squash _) ∙ simp (operations, c.whole_power.ensures)
