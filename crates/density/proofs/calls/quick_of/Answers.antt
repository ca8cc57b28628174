-- `quick_of` meets its contract, by whether its inputs are permitted. Assumes nothing.
use mathlib.Core.Path.{ap, ◌∙◌}
use Rattle.std.proofs.lemmas.Result.{err_from_is_err_and}
use Rattle.search.specs.InCell.{in_cell}
use Rattle.inputs.specs.Inputs.{search_permit}
use Rattle.density.proofs.Permitted.{question, kept_of_lem}
use Rattle.density.proofs.Guarded.{quick_inside, quick_guarded}
use Rattle.density.proofs.Outcomes.{quick_refused_lem, quick_answered}
use Rattle.inputs.proofs.Passed.{inputs_with_room}
use Rattle.density.proofs.calls.quick_of.Goals as goal

pub found_state-requires : goal.found_state-requires
found_state-requires c =
    let ok = inputs_with_room (search_permit _ c.args.t c.args.p c.args.c) _ _ _ _ c.room-enough.ensures c.search_inputs.ensures c.in_ok-search_inputs.was in
    let ask = question _ _ _ _ _ ok c.keep-kept.result (kept_of_lem _ _ _ c.keep-kept.ensures) in
    rw (c.step_in_cell-step.ensures, c.quick_cell-cell.ensures) (quick_inside _ _ _ ask.top _ ask.some_cell)

pub returns-in_err-search_inputs : goal.returns-in_err-search_inputs
returns-in_err-search_inputs c =
    let refused = inputs_with_room (search_permit _ c.args.t c.args.p c.args.c) _ _ _ _ c.room-enough.ensures c.search_inputs.ensures c.in_err-search_inputs.was in
    let e = err_from_is_err_and c.from_residual.result c.from_residual.ensures.1 in
    rw (e.1, e.2) (quick_refused_lem _ _ _ _ c.args.side c.args.greatest.now c.args.least.now _ refused)

pub returns : goal.returns
returns c =
    let ok = inputs_with_room (search_permit _ c.args.t c.args.p c.args.c) _ _ _ _ c.room-enough.ensures c.search_inputs.ensures c.in_ok-search_inputs.was in
    let ask = question _ _ _ _ _ ok c.keep-kept.result (kept_of_lem _ _ _ c.keep-kept.ensures) in
    let step = c.step_in_cell-step.ensures ∙ ap (in_cell _ _) c.quick_cell-cell.ensures ∙ quick_guarded _ _ _ ask.top _ ask.some_cell in
    quick_answered _ _ _ _ _ c.args.greatest.now c.args.least.now _ _ _ ok c.keep-kept.ensures step c.found_state.ensures
