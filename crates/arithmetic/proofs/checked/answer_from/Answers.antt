-- `answer_from` meets its contract, by whether x is finite. Assumes nothing.
use mathlib.Core.Path.{sym, ◌∙◌}
use Rattle.arithmetic.proofs.Answered.{answer_from_finite, answer_from_not_finite}
use Rattle.arithmetic.proofs.checked.answer_from.Goals as goal

pub returns-then-finite : goal.returns-then-finite
returns-then-finite c = sym (answer_from_finite c.args.x (sym c.finite.ensures ∙ c.if-finite.true))

pub returns-else-finite : goal.returns-else-finite
returns-else-finite c = sym (answer_from_not_finite c.args.x (sym c.finite.ensures ∙ c.if-finite.false))
