-- `stable_sound_speed` meets its contract: the permit's answer where it is denied, and the value's where it is granted. Assumes nothing.
use mathlib.Core.Path.{sym, ◌∙◌, ap}
use Rattle.std.proofs.lemmas.Result.{err_from_is_err_and}
use Rattle.refusals.proofs.Needed.{permitted_granted, permitted_denied}
use Rattle.arithmetic.specs.Answered.{answer_from}
use Rattle.stability.specs.Stability.{sound_speed_from, sound_speed_value}
use Rattle.properties.proofs.Permits.{stable_at}
use Rattle.properties.proofs.calls.stable_sound_speed.Goals as goal

pub returns : goal.returns
unfolding sound_speed_value
returns c =
    c.answer_from.ensures
    ∙ ap answer_from (c.sound_speed_value.ensures ∙ ap sound_speed_from c.stability_of-stability.ensures)
    ∙ sym (permitted_granted _ _ (stable_at _ _ c.stability_of-stability.ensures ∙ sym c.in_ok-stability_permit.ensures))

pub returns-in_err-stability_permit : goal.returns-in_err-stability_permit
returns-in_err-stability_permit c =
    let p = err_from_is_err_and c.from_residual.result c.from_residual.ensures.1 in
    rw (p.1, p.2) (sym (permitted_denied _ _ _ (stable_at _ _ c.stability_of-stability.ensures ∙ sym c.in_err-stability_permit.ensures)))
