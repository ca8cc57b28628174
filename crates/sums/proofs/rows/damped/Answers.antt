-- `damped` meets its contract: squash goes through each operation, and an operation does not see it. Assumes nothing.
use Rattle.arithmetic.proofs.Forced.{forced}
use Rattle.arithmetic.proofs.Operations.{operations}
use Rattle.sums.specs.Rows.{row_at}
use Rattle.sums.proofs.rows.damped.Goals as goal

pub returns : goal.returns
unfolding row_at
returns c =
    simp (operations, forced, c.amount.ensures, c.whole_power-p.ensures)
