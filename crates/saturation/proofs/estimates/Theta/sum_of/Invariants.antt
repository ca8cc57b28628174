-- `sum_of` meets its contract. The loop's invariant: the sum has as many terms more than at the start as the loop has gone over. Assumes nothing.
use mathlib.Core.Path.{◌≡◌}
use Rattle.arithmetic.specs.Checked.{squash}
use Rattle.saturation.specs.Estimates.{plus_terms}
use Rattle.saturation.proofs.estimates.Theta.sum_of.Given as goal

abbrev pub invariant-loop-term : goal.invariant-loop-term
invariant-loop-term l = squash l.sum ≡ plus_terms (squash l.self.value) l.terms (squash l.first) 0 l.term-index
