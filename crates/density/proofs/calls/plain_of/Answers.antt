-- `plain_of` meets its contract, by whether its inputs are permitted. Assumes nothing.
use mathlib.Core.Path.{sym, ap, ◌∙◌}
use Rattle.std.proofs.lemmas.Result.{err_from_is_err_and}
use Rattle.search.specs.InCell.{in_cell}
use Rattle.density.proofs.Permitted.{question, kept_of_lem}
use Rattle.density.proofs.Guarded.{plain_inside, plain_guarded}
use Rattle.density.proofs.Outcomes.{plain_refused_lem, plain_answered}
use Rattle.density.proofs.calls.plain_of.Goals as goal

pub found_state-requires : goal.found_state-requires
found_state-requires c =
    let ok = sym c.in_ok-search_inputs.ensures in
    let ask = question _ _ _ _ _ ok c.keep-kept.result (kept_of_lem _ _ _ c.keep-kept.ensures) in
    rw (c.step_in_cell-step.ensures, c.plain_cell-cell.ensures) (plain_inside _ _ _ ask.top c.args.side)

pub returns-in_err-search_inputs : goal.returns-in_err-search_inputs
returns-in_err-search_inputs c =
    let e = err_from_is_err_and c.from_residual.result c.from_residual.ensures.1 in
    rw (e.1, e.2) (plain_refused_lem _ _ _ _ c.args.side _ (sym c.in_err-search_inputs.ensures))

pub returns : goal.returns
returns c =
    let ok = sym c.in_ok-search_inputs.ensures in
    let ask = question _ _ _ _ _ ok c.keep-kept.result (kept_of_lem _ _ _ c.keep-kept.ensures) in
    let step = c.step_in_cell-step.ensures ∙ ap (in_cell _ _) c.plain_cell-cell.ensures ∙ plain_guarded _ _ _ ask.top c.args.side in
    plain_answered _ _ _ _ _ _ _ _ ok c.keep-kept.ensures step c.found_state.ensures
