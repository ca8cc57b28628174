-- `over` meets its contract, by whether the divisor is finite. Assumes nothing.
use mathlib.Core.Path.{sym, ◌∙◌, ap, subst}
use lib.Dec.{T}
use lib.Ieee.{Float}
use Rattle.arithmetic.specs.Checked.{squash, ◌⊘◌}
use Rattle.arithmetic.proofs.Operations.{squash_div, squash_not_finite, nan_⊘}
use Rattle.arithmetic.proofs.Literals.{lit_nan}
use Rattle.arithmetic.proofs.checked.over.Goals as goal

pub returns-then-finite : goal.returns-then-finite
returns-then-finite c =
    c.squash.ensures ∙ squash_div _ _ (subst T (sym (sym c.finite.ensures ∙ c.if-finite.true)) tt)

pub returns-else-finite : goal.returns-else-finite
returns-else-finite c =
    lit_nan ∙ sym (ap (λ (z : Float). squash c.args.a ⊘ z) (squash_not_finite c.args.b (sym c.finite.ensures ∙ c.if-finite.false)) ∙ (nan_⊘ (squash c.args.a)).1)
