-- `power_exponents` meets its contract. The loop's invariant: the exponentials of the first i places are filled. Assumes nothing.
use mathlib.Core.Path.{sym, ◌∙◌, ap}
use borrow.Author.Rules.{rules}
use Rattle.std.proofs.lemmas.List.{map-set}
use lib.Ieee.{Float}
use Rattle.arithmetic.specs.Checked.{◌⊗◌}
use Rattle.exponentials.specs.Exp.{exp_of}
use Rattle.exponentials.proofs.ExpRange.{exp_squash}
use Rattle.kept.specs.Kept.{power_at}
use Rattle.kept.proofs.Filled.{one_filled}
use Rattle.kept.proofs.power_exponents.Goals as goal

pub loop-i-preserved : goal.loop-i-preserved
unfolding power_at ◌⊗◌
loop-i-preserved c =
    rw map-set (one_filled (power_at _) c.terms-terms.result _ c.loop-i.i _ _ c.loop-i.invariant (search rules)
    (sym (exp_squash _) ∙ ap (λ (t : Float). exp_of (t ⊗ c.args.y)) c.exponent.ensures))
