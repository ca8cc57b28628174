-- `accept_of` meets its contract: the inputs and the order, and then the verdict. Assumes nothing.
use mathlib.Core.Path.{◌∙◌}
use Rattle.std.proofs.lemmas.Result.{err_from_is_err_and}
use Rattle.refusals.specs.declared.Refusal.TheVariants as refuses
use Rattle.refusals.proofs.InOrder.{one_test}
use Rattle.inputs.specs.Inputs.{pair_tests, pair_permit}
use Rattle.coexistence.proofs.Judgement.{judge_by}
use Rattle.coexistence.proofs.judge.accept_of.Goals as goal

pub returns : goal.returns
unfolding pair_permit
returns c =
    let pair = c.args.pair in
    c.verdict.ensures
    ∙ judge_by c.args.fluid c.args.t pair.liquid pair.vapour (one_test (pair_tests c.args.fluid c.args.t pair.liquid pair.vapour) _ refuses.NotAccepted c.in_ok-tested.ensures c.pair_inputs-inputs.ensures c.ordered.ensures)

pub returns-in_err-tested : goal.returns-in_err-tested
unfolding pair_permit
returns-in_err-tested c =
    let pair = c.args.pair in
    let p = err_from_is_err_and c.from_residual.result c.from_residual.ensures.1 in
    rw (p.1, p.2)
    (judge_by c.args.fluid c.args.t pair.liquid pair.vapour (one_test (pair_tests c.args.fluid c.args.t pair.liquid pair.vapour) _ refuses.NotAccepted c.in_err-tested.ensures c.pair_inputs-inputs.ensures c.ordered.ensures))
