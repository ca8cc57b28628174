-- `scaled` meets its contract: squash goes through the product. Assumes nothing.
use Rattle.arithmetic.proofs.Operations.{squash_mul}
use Rattle.exponentials.proofs.Literals.{lit_two⁻10, squash_two⁻10}
use Rattle.exponentials.proofs.parts.scaled.Goals as goal

pub returns : goal.returns
returns c = simp (squash_mul, lit_two⁻10, squash_two⁻10, c.in_range.ensures)
