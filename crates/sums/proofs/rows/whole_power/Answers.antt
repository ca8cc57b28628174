-- `whole_power` meets its contract: p is the product of the factors so far. Assumes nothing.
use mathlib.Core.Path.{◌∙◌}
use native.Mathlib.Numerals.{add-one}
use Rattle.elementary.specs.Power.{◌↑◌}
use Rattle.arithmetic.proofs.Operations.{squash_mul}
use Rattle.arithmetic.proofs.Literals.{lit_1, squash_1}
use Rattle.sums.proofs.rows.whole_power.Goals as goal

pub loop-init : goal.loop-init
unfolding ◌↑◌
loop-init c = simp (lit_1, squash_1)

pub loop-preserved : goal.loop-preserved
unfolding ◌↑◌
loop-preserved c = squash_mul _ _ ∙ simp (c.loop.invariant, add-one)
