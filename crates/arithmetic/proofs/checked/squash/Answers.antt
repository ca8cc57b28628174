-- `squash` meets its contract, by whether x is finite. Assumes nothing.
use mathlib.Core.Path.{sym, ◌∙◌}
use Rattle.arithmetic.proofs.Operations.{squash_finite, squash_not_finite}
use Rattle.arithmetic.proofs.Literals.{lit_nan}
use Rattle.arithmetic.proofs.checked.squash.Goals as goal

pub returns-then-finite : goal.returns-then-finite
returns-then-finite c = sym (squash_finite c.args.x (sym c.finite.ensures ∙ c.if-finite.true))

pub returns-else-finite : goal.returns-else-finite
returns-else-finite c = lit_nan ∙ sym (squash_not_finite c.args.x (sym c.finite.ensures ∙ c.if-finite.false))
