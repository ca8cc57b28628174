-- `pair_of` meets its contract: by how the two estimates end. Assumes nothing.
use mathlib.Core.Path.{refl, ◌∙◌}
use Rattle.std.proofs.lemmas.Result.{err_from_is_err_and}
use Rattle.saturation.specs.Calls.{saturated_liquid_of, saturated_vapour_of}
use Rattle.coexistence.proofs.Sequence.{begun}
use Rattle.coexistence.proofs.proposer.pair_of.Goals as goal

pub returns-in_err-liquid : goal.returns-in_err-liquid
unfolding saturated_liquid_of
returns-in_err-liquid c =
    let p = err_from_is_err_and c.from_residual.result c.from_residual.ensures.1 in
    rw (p.1, p.2) (begun c.args.fluid c.args.t c.in_err-liquid.ensures refl)

pub returns-in_err-vapour : goal.returns-in_err-vapour
unfolding saturated_liquid_of saturated_vapour_of
returns-in_err-vapour c =
    let p = err_from_is_err_and c.from_residual-in_err-vapour.result c.from_residual-in_err-vapour.ensures.1 in
    rw (p.1, p.2) (begun c.args.fluid c.args.t c.in_ok-liquid.ensures c.in_err-vapour.ensures)

pub returns : goal.returns
unfolding saturated_liquid_of saturated_vapour_of
returns c = c.first_accepted.ensures ∙ begun c.args.fluid c.args.t c.in_ok-liquid.ensures c.in_ok-vapour.ensures
