-- `term_value` meets its contract, by the two kinds of a term. Assumes nothing.
use mathlib.Core.Path.{sym, ap, subst}
use Rattle.arithmetic.proofs.Operations.{squash_mul}
use Rattle.elementary.proofs.Ranges.{power_squashed}
use Rattle.fluids.specs.Finite.{FiniteEstimate}
use Rattle.saturation.specs.Estimates.{term_of}
use Rattle.saturation.proofs.estimates.Theta.term_value.Goals as goal

pub returns-in-Alone : goal.returns-in-Alone
unfolding term_of
returns-in-Alone c =
    simp (squash_mul, subst FiniteEstimate c.in-Alone.is c.requires) (sym (ap (term_of _) c.in-Alone.is))

pub returns-in-Raised : goal.returns-in-Raised
unfolding term_of
returns-in-Raised c =
    simp (squash_mul, c.raised.ensures, power_squashed, (subst FiniteEstimate c.in-Raised.is c.requires).0)
    (sym (ap (term_of _) c.in-Raised.is))
