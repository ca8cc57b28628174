-- `at` meets its contract: squash goes through each operation. Assumes nothing.
use Rattle.arithmetic.proofs.Operations.{squash_sub, squash_over}
use Rattle.arithmetic.proofs.Literals.{lit_1, squash_1}
use Rattle.saturation.specs.Estimates.{theta_of}
use Rattle.saturation.proofs.estimates.Theta.at.Goals as goal

pub returns : goal.returns
unfolding theta_of
returns c =
    simp (squash_sub, squash_over, lit_1, squash_1, c.single_numbers-critical.ensures, c.requires)
