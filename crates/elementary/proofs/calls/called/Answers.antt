-- `called` meets its contract, by whether x is finite. Assumes nothing.
use mathlib.Core.Path.{sym, ◌∙◌}
use Rattle.refusals.proofs.Needed.{need_passed, need_failed}
use Rattle.elementary.proofs.calls.called.Goals as goal

pub returns-then-finite : goal.returns-then-finite
returns-then-finite c =
    c.answer_from.ensures ∙ sym (need_passed _ _ _ (sym c.finite.ensures ∙ c.if-finite.true))

pub returns-else-finite : goal.returns-else-finite
returns-else-finite c = sym (need_failed _ _ _ (sym c.finite.ensures ∙ c.if-finite.false))
