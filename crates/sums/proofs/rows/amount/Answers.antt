-- `amount` meets its contract: squash goes through each operation. Assumes nothing.
use Rattle.arithmetic.proofs.Operations.{operations}
use Rattle.sums.proofs.rows.amount.Goals as goal

pub returns : goal.returns
returns c = simp (operations, c.whole_power.ensures)
