-- `sum_of` meets its contract. The loop's invariant: the sum has as many terms more than at the start as the loop has gone over. Assumes nothing.
use mathlib.Core.Path.{refl}
use Rattle.saturation.specs.Estimates.{plus_terms}
use Rattle.saturation.proofs.Terms.{plus_turn}
use Rattle.saturation.proofs.estimates.Theta.sum_of.Goals as goal

pub loop-term-init : goal.loop-term-init
unfolding plus_terms
loop-term-init c = refl

pub loop-term-preserved : goal.loop-term-preserved
loop-term-preserved c = plus_turn _ _ _ _ _ _ c.loop-term.invariant c.term_value-sum.ensures
