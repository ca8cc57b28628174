-- `found_state` meets its contract, by whether a step was found. Assumes nothing.
use Rattle.std.proofs.lemmas.Result.{err_from_is_err_and}
use Rattle.density.proofs.Outcomes.{inside_at, found_answered, found_refused}
use Rattle.steps.proofs.Inside.{at_step}
use Rattle.density.proofs.state.found_state.Goals as goal

pub returns : goal.returns
returns c =
    let density = at_step _ _ _ (inside_at _ _ c.in_ok-located.was c.requires) c.step_density-density.ensures in
    found_answered _ _ _ _ _ _ c.in_ok-located.was density c.state_word-word.ensures

pub returns-in_err-located : goal.returns-in_err-located
returns-in_err-located c =
    let e = err_from_is_err_and c.from_residual.result c.from_residual.ensures.1 in
    rw (e.1, e.2) (found_refused _ _ _ _ c.in_err-located.was)
