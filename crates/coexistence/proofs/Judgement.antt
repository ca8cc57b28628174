-- Whether the judge accepts, as the four tests that the code works, and what becomes of one pair of the sequence by them.
use mathlib.Core.Path.{◌≡◌, refl, sym, ◌∙◌, ap}
use mathlib.Core.Bool.{Bool, true, false, ◌&&◌, and-false}
use mathlib.Core.List.{List, [], ◌∷◌, ◌++◌}
use lib.Ieee.{Float}
use Rattle.refusals.specs.declared.Refusal.{Refusal}
use Rattle.refusals.specs.declared.Refusal.TheVariants.{NotAccepted, WorkNotFinite}
use Rattle.refusals.specs.Answer.{Permit}
use Rattle.refusals.specs.Order.{first_of, granted}
use Rattle.refusals.proofs.Needed.{also, first_of_both}
use Rattle.refusals.proofs.InOrder.{granted_both, granted_one, granted_two}
use Rattle.fluids.specs.declared.Fluid.{Fluid}
use Rattle.inputs.specs.Inputs.{pair_tests, pair_permit}
use Rattle.coexistence.specs.declared.Densities.{Densities}
use Rattle.coexistence.specs.declared.phase.Compared.{Compared}
use Rattle.coexistence.specs.declared.proposer.Judged.TheVariants.{Accepted, GoesOn, Ends}
use Rattle.coexistence.specs.Phase.{compared_at}
use Rattle.coexistence.specs.Judge.{ordered, all_finite, meets, verdict_tests, verdict_of, judge_of}
use Rattle.coexistence.specs.Round.{next_by}
use Rattle.coexistence.specs.Proposer.{pair, accepts, goes_on, next_of, judged_of}

-- the order of the densities, worked before or after whether the numbers are finite
middle : (a b c : Bool) → (a && (b && c)) ≡ (b && (a && c))
middle true b c = refl
middle false b c = sym (and-false b)

module _ (F : Fluid) (T l v : Float) where
  -- 2, 3, 4 and 19, before the work
  abbrev before_work : Permit
  before_work = first_of (pair_tests F T l v ++ ((ordered F T l v, NotAccepted) ∷ []))

  judge_in_parts : judge_of F T l v ≡ also before_work (verdict_of F T l v)
  unfolding judge_of verdict_of
  judge_in_parts = first_of_both (pair_tests F T l v ++ ((ordered F T l v, NotAccepted) ∷ [])) (verdict_tests F T l v)

  -- how the judge ends, by how the tests before the work end
  pub judge_by : {before : Permit} → before ≡ before_work → also before (verdict_of F T l v) ≡ judge_of F T l v
  judge_by e = ap (λ (p : Permit). also p (verdict_of F T l v)) e ∙ sym judge_in_parts

  inputs_granted : granted before_work ≡ (granted (pair_permit F T l v) && ordered F T l v)
  unfolding pair_permit
  inputs_granted =
      let place : List (Bool × Refusal) = (ordered F T l v, NotAccepted) ∷ [] in
      ap granted (first_of_both (pair_tests F T l v) place)
      ∙ granted_both (first_of (pair_tests F T l v)) (first_of place)
      ∙ ap (λ (b : Bool). granted (first_of (pair_tests F T l v)) && b) (granted_one (ordered F T l v) NotAccepted)

  verdict_granted : granted (verdict_of F T l v) ≡ (all_finite (compared_at F T l v) && meets (compared_at F T l v))
  unfolding verdict_of
  verdict_granted = granted_two (all_finite (compared_at F T l v)) (meets (compared_at F T l v)) WorkNotFinite NotAccepted

  -- the judge accepts exactly if the four hold
  pub accepts_is :
      granted (judge_of F T l v)
      ≡ ((granted (pair_permit F T l v) && ordered F T l v) && (all_finite (compared_at F T l v) && meets (compared_at F T l v)))
  accepts_is =
      ap granted judge_in_parts ∙ granted_both before_work (verdict_of F T l v) ∙ ap (λ (b : Bool). b && granted (verdict_of F T l v)) inputs_granted
      ∙ ap (λ (b : Bool). (granted (pair_permit F T l v) && ordered F T l v) && b) verdict_granted

  -- ---- one pair of the sequence

  module _ (inside : granted (pair_permit F T l v) ≡ true) {x : Compared} (same : x ≡ compared_at F T l v) where
    accepts_by : {worked met : Bool} → worked ≡ all_finite x → met ≡ (ordered F T l v && meets x) → accepts F T (pair l v) ≡ (worked && met)
    unfolding accepts
    accepts_by e f =
        accepts_is
        ∙ ap (λ (b : Bool). (b && ordered F T l v) && (all_finite (compared_at F T l v) && meets (compared_at F T l v))) inside
        ∙ middle (ordered F T l v) (all_finite (compared_at F T l v)) (meets (compared_at F T l v))
        ∙ simp (e, f, same)

    goes_on_by : {worked : Bool} → worked ≡ all_finite x → goes_on F T (pair l v) ≡ worked
    unfolding goes_on
    goes_on_by e = simp (inside, e, same)

    pub judged_accepted : true ≡ all_finite x → true ≡ (ordered F T l v && meets x) → Accepted ≡ judged_of F T (pair l v)
    unfolding judged_of
    judged_accepted worked met = simp (accepts_by worked met)

    pub judged_goes_on : {next : Densities} → true ≡ all_finite x → false ≡ (ordered F T l v && meets x) → next ≡ next_by F T l v x → GoesOn next ≡ judged_of F T (pair l v)
    unfolding judged_of next_of
    judged_goes_on worked met e = simp (accepts_by worked met, goes_on_by worked, e, same)

    pub judged_not_finite : false ≡ all_finite x → Ends ≡ judged_of F T (pair l v)
    unfolding judged_of
    judged_not_finite worked = simp (accepts_by worked refl, goes_on_by worked)

  pub judged_denied : granted (pair_permit F T l v) ≡ false → Ends ≡ judged_of F T (pair l v)
  unfolding judged_of accepts goes_on
  judged_denied e = simp (accepts_is, e)
