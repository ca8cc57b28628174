-- `prepare_of` meets its contract, by whether its inputs are permitted. Assumes nothing.
use Rattle.std.proofs.lemmas.Result.{err_from_is_err_and}
use Rattle.inputs.specs.Inputs.{prepare_permit}
use Rattle.inputs.proofs.Passed.{prepare_granted}
use Rattle.preparation.proofs.Outcomes.{prepare_refused, prepare_answered}
use Rattle.inputs.proofs.Passed.{inputs_with_room}
use Rattle.preparation.proofs.prepare_of.Goals as goal

pub prepare_lists-requires : goal.prepare_lists-requires
prepare_lists-requires c =
    prepare_granted _ _ _ _ _ (inputs_with_room (prepare_permit _ c.args.t c.args.c) _ _ _ _ c.room-enough.ensures c.prepare_inputs.ensures c.in_ok-prepare_inputs.was)

pub returns-in_err-prepare_inputs : goal.returns-in_err-prepare_inputs
returns-in_err-prepare_inputs c =
    let refused = inputs_with_room (prepare_permit _ c.args.t c.args.c) _ _ _ _ c.room-enough.ensures c.prepare_inputs.ensures c.in_err-prepare_inputs.was in
    let p = prepare_refused _ _ _ c.args.greatest.now c.args.least.now _ refused in
    let e = err_from_is_err_and c.from_residual.result c.from_residual.ensures.1 in
    (rw (e.1, e.2) p.outcome, p.greatest_left, p.least_left)

pub returns : goal.returns
returns c =
    let ok = inputs_with_room (prepare_permit _ c.args.t c.args.c) _ _ _ _ c.room-enough.ensures c.prepare_inputs.ensures c.in_ok-prepare_inputs.was in
    let (outcome, greatest, least) = c.prepare_lists.ensures in
    let p = prepare_answered _ _ _ c.args.greatest.now c.args.least.now _ _ _ _ ok c.keep.ensures outcome greatest least in
    (p.outcome, p.greatest_left, p.least_left)
