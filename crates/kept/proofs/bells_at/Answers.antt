-- `bells_at` meets its contract. The loop's invariant: the first i places are filled. Assumes nothing.
use mathlib.Core.Path.{◌∙◌}
use borrow.Author.Rules.{rules}
use Rattle.kept.specs.Kept.{bell_at}
use Rattle.kept.proofs.Filled.{one_filled}
use Rattle.kept.proofs.bells_at.Goals as goal

pub loop-i-preserved : goal.loop-i-preserved
loop-i-preserved c = one_filled (bell_at _) c.terms-terms.result _ c.loop-i.i _ _ c.loop-i.invariant (search rules) (c.squash.ensures ∙ c.bell_part.ensures)
