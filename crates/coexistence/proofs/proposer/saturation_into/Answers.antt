-- `saturation_into` meets its contract: the call on the fluid that the number names, or 17 and the output as it was. Assumes nothing.
use mathlib.Core.Path.{refl}
use Rattle.std.proofs.lemmas.Result.{err_from_is_err_and}
use Rattle.fluids.specs.declared.Fluid.{Fluid}
use Rattle.inputs.proofs.Named.{known_fluid, unknown_fluid}
use Rattle.coexistence.specs.Call.{refused_with, pair_into, saturation_of}
use Rattle.coexistence.proofs.proposer.saturation_into.Goals as goal

pub returns-in_err-try_from : goal.returns-in_err-try_from
unfolding saturation_of
returns-in_err-try_from c =
    let p = err_from_is_err_and c.from_residual.result c.from_residual.ensures.1 in
    rw (p.1, p.2)
    (unknown_fluid (refused_with c.args.out.now) (λ (F : Fluid). pair_into F c.args.t c.args.out.now) c.args.number c.in_err-try_from.ensures refl refl)

pub returns : goal.returns
unfolding saturation_of
returns c =
    known_fluid (refused_with c.args.out.now) (λ (F : Fluid). pair_into F c.args.t c.args.out.now) c.args.number
    c.in_ok-try_from.ensures refl c.pair_into.ensures
