-- `from_first` meets its contract: the first term, and the sum of the others upon it. Assumes nothing.
use mathlib.Core.Path.{◌∙◌, ap}
use lib.Ieee.{Float}
use lib.ListN.{length}
use Prim.Native.Nat.{◌-◌}
use Rattle.arithmetic.specs.Checked.{squash}
use Rattle.saturation.specs.Estimates.{term_at, plus_terms, from_first}
use Rattle.saturation.proofs.Terms.{rest_summed}
use Rattle.saturation.proofs.estimates.Theta.from_first.Goals as goal

pub returns : goal.returns
unfolding from_first term_at
returns c =
    c.sum_of.ensures
    ∙ rest_summed _ _ _
    ∙ ap (λ (s : Float). plus_terms (squash c.args.self.value) c.args.terms.now s 1 (length c.args.terms.now - 1)) c.term_value-first.ensures
