-- `stability_permit` meets its contract: its two tests are those of the definition, in its order. Assumes nothing.
use mathlib.Core.Path.{refl}
use mathlib.Core.Bool.{Bool, ◌&&◌}
use mathlib.Core.List.{[], ◌∷◌}
use lib.Ieee.Scale.{finite}
use Rattle.refusals.specs.declared.Refusal.{Refusal}
use Rattle.refusals.specs.declared.Refusal.TheVariants as refuses
use Rattle.refusals.proofs.InOrder.{one_test}
use Rattle.properties.specs.Calls.{stable_of}
use Rattle.properties.proofs.calls.stability_permit.Goals as goal

pub returns : goal.returns
unfolding stable_of
returns c =
    let stability = c.args.stability in
    let worked : Bool × Refusal = (finite stability.v && (finite stability.k && finite stability.q), refuses.WorkNotFinite) in
    one_test (worked ∷ []) _ refuses.NotStable c.tested.ensures
    (one_test [] _ refuses.WorkNotFinite c.tested-first.ensures refl c.all_finite-worked.ensures)
    c.stable.ensures
