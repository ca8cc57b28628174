-- `added` meets its contract: squash goes through each operation. Assumes nothing.
use Rattle.arithmetic.proofs.Operations.{operations}
use Rattle.sums.proofs.added.Goals as goal

pub returns : goal.returns
returns c = simp operations
