-- `step` meets its contract: squash goes through each operation. Assumes nothing.
use Rattle.arithmetic.proofs.Operations.{squash_add, squash_mul, squash_over}
use Rattle.arithmetic.proofs.Literals.{lit_1, squash_1}
use Rattle.exponentials.proofs.parts.step.Goals as goal

pub returns : goal.returns
returns c = simp (squash_add, squash_over, squash_mul, lit_1, squash_1)
