-- `verdict` meets its contract: its two tests, one after the other, of the phases at the kept temperature. Assumes nothing.
use mathlib.Core.Path.{refl, ◌∙◌, ap}
use mathlib.Core.List.{[], ◌∷◌}
use Rattle.refusals.specs.declared.Refusal.TheVariants as refuses
use Rattle.refusals.proofs.InOrder.{one_test}
use Rattle.kept.specs.declared.Kept.{Kept}
use Rattle.coexistence.specs.Phase.{compared_by, compared_at}
use Rattle.coexistence.specs.Judge as Judge
use Rattle.coexistence.proofs.judge.verdict.Goals as goal

pub returns : goal.returns
unfolding Judge.verdict_of
returns c =
    let phases = c.compare-c.ensures ∙ ap (λ (k : Kept). compared_by k c.args.pair.liquid c.args.pair.vapour) c.keep.ensures in
    one_test ((Judge.all_finite (compared_at c.args.fluid c.args.t c.args.pair.liquid c.args.pair.vapour), refuses.WorkNotFinite) ∷ []) _ refuses.NotAccepted c.tested.ensures
    (one_test [] _ refuses.WorkNotFinite c.tested-worked.ensures refl (c.all_finite.ensures ∙ ap Judge.all_finite phases))
    (c.meets.ensures ∙ ap Judge.meets phases)
