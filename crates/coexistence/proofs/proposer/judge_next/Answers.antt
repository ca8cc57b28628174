-- `judge_next` meets its contract: by the inputs, by whether the numbers are finite, and by whether the pair is accepted. Assumes nothing.
use mathlib.Core.Path.{◌≡◌, refl, sym, ◌∙◌, ap}
use mathlib.Core.Bool.{Bool, not}
use lib.Ieee.{Float}
use Rattle.std.specs.Prelude.{Ok, Err}
use Rattle.std.specs.Result.{is_err}
use Rattle.refusals.specs.Answer.{Permit}
use Rattle.refusals.specs.Order.{granted}
use Rattle.fluids.specs.declared.Fluid.{Fluid}
use Rattle.kept.specs.declared.Kept.{Kept}
use Rattle.kept.specs.Kept.{kept_of}
use Rattle.coexistence.specs.declared.phase.Compared.{Compared}
use Rattle.coexistence.specs.Phase.{compared_by, compared_at}
use Rattle.coexistence.proofs.Judgement.{judged_accepted, judged_goes_on, judged_not_finite, judged_denied}
use Rattle.coexistence.proofs.proposer.judge_next.Goals as goal

-- what a pair's numbers are, of the temperature that is kept
both_at : (F : Fluid) (T l v : Float) {k : Kept} {x : Compared} → k ≡ kept_of F T → x ≡ compared_by k l v → x ≡ compared_at F T l v
both_at F T l v e f = f ∙ ap (λ (k : Kept). compared_by k l v) e

-- whether the inputs are granted, by whether they were denied
not_denied : (p : Permit) → granted p ≡ not (is_err p)
not_denied (Ok _) = refl
not_denied (Err r) = refl

let_in : {p q : Permit} {b : Bool} → p ≡ q → b ≡ is_err p → granted q ≡ not b
let_in {p} e f = ap granted (sym e) ∙ not_denied p ∙ ap not (sym f)

pub returns-then-is_err : goal.returns-then-is_err
returns-then-is_err c = judged_denied _ _ _ _ (let_in c.pair_inputs.ensures c.if-is_err.ensures.value)

pub returns-then-not-all_finite : goal.returns-then-not-all_finite
returns-then-not-all_finite c =
    judged_not_finite _ _ _ _ (let_in c.pair_inputs.ensures c.if-is_err.ensures.value) (both_at _ _ _ _ c.requires c.compare-c.ensures) c.if-not-all_finite.ensures

pub returns-then-accepted : goal.returns-then-accepted
returns-then-accepted c =
    judged_accepted _ _ _ _ (let_in c.pair_inputs.ensures c.if-is_err.ensures.value) (both_at _ _ _ _ c.requires c.compare-c.ensures) c.if-not-all_finite.ensures c.if-accepted.ensures

pub returns : goal.returns
returns c =
    judged_goes_on _ _ _ _ (let_in c.pair_inputs.ensures c.if-is_err.ensures.value) (both_at _ _ _ _ c.requires c.compare-c.ensures) c.if-not-all_finite.ensures c.if-accepted.ensures c.next_pair.ensures
