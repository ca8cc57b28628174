-- What follows of the proposer from its definition, for readers who want 02's sentences one by one: what it hands on is accepted by the judge and is the
-- first such pair of the sequence, and it gives up exactly if there is none.
use mathlib.Core.Path.{◌≡◌, refl, sym, ◌∙◌, ap}
use mathlib.Core.Logic.{◌↔◌}
use mathlib.Core.Bool.{true, false, true≢false}
use mathlib.Core.List.{List, [], ◌∷◌, ◌++◌}
use lib.Ieee.{Float, nan, inf, fin}
use Rattle.std.specs.Prelude.{Result, Ok, Err}
use Rattle.refusals.specs.declared.Refusal.{Refusal}
use Rattle.refusals.specs.declared.Refusal.TheVariants.{WorkNotFinite, GaveUp}
use Rattle.refusals.specs.Answer.{Permit, Answer}
use Rattle.refusals.specs.Order.{permitted}
use Rattle.refusals.proofs.Tests.{by}
use Rattle.refusals.proofs.Apart.{other_code}
use Rattle.refusals.proofs.InOrder.{is_granted, never_denied}
use Rattle.arithmetic.specs.Answered.{answer_from}
use Rattle.fluids.specs.declared.Fluid.{Fluid}
use Rattle.inputs.specs.Inputs.{saturation_tests, saturation_permit}
use Rattle.saturation.specs.Estimates.{liquid_estimate, vapour_estimate}
use Rattle.saturation.specs.Calls.{saturated_liquid_of, saturated_vapour_of}
use Rattle.coexistence.specs.declared.Densities.{Densities}
use Rattle.coexistence.specs.Judge.{judge_of}
use Rattle.coexistence.specs.Proposer.{pair, accepts, pairs_after, first_accepted, started_with, pair_of}
use Rattle.coexistence.proofs.Sequence.{begun}

pub pair≢refused : (l v : Float) (r : Refusal) → ◌≡◌ {A = Result Densities Refusal} (Ok (pair l v)) (Err r) → ⊥
pair≢refused l v r e = true≢false (cc)

one_pair : (d : Densities) (l v : Float) → ◌≡◌ {A = Result Densities Refusal} (Ok d) (Ok (pair l v)) → d ≡ pair l v
one_pair d l v e = cc

module _ (F : Fluid) (T : Float) where
  -- ---- a list's first accepted pair

  -- no pair of the list is accepted
  abbrev pub NoneAccepted : List Densities → Type 0
  NoneAccepted [] = Unit
  NoneAccepted (d ∷ ds) = (accepts F T d ≡ false) × NoneAccepted ds

  -- the pair l, v is the first of the list that is accepted
  pub record First (l v : Float) (ds : List Densities) : Type 0 where
    pub before : List Densities
    pub after : List Densities
    pub there : ds ≡ before ++ (pair l v ∷ after)
    pub none_before : NoneAccepted before
    pub accepted : accepts F T (pair l v) ≡ true

  -- what the search through a list ends with, by whether its first pair is accepted
  taken : (d : Densities) (ds : List Densities) → accepts F T d ≡ true → first_accepted F T (d ∷ ds) ≡ Ok d
  unfolding first_accepted
  taken d ds e = simp e

  passed_over : (d : Densities) (ds : List Densities) → accepts F T d ≡ false → first_accepted F T (d ∷ ds) ≡ first_accepted F T ds
  unfolding first_accepted
  passed_over d ds e = simp e

  nothing_there : first_accepted F T [] ≡ Err GaveUp
  unfolding first_accepted
  nothing_there = refl

  first_of : (l v : Float) (ds : List Densities) → first_accepted F T ds ≡ Ok (pair l v) → First l v ds
  first_of l v [] e = absurd (pair≢refused l v GaveUp (sym e ∙ nothing_there))
  first_of l v (d ∷ ds) e =
      by (accepts F T d)
      (λ yes.
      let same = one_pair d l v (sym (taken d ds yes) ∙ e) in
      record { before = []; after = ds; there = ap (λ (x : Densities). x ∷ ds) same; none_before = tt; accepted = sym (ap (accepts F T) same) ∙ yes })
      (λ no.
      let later = first_of l v ds (sym (passed_over d ds no) ∙ e) in
      record { before = d ∷ later.before; after = later.after; there = ap (λ (x : List Densities). d ∷ x) later.there; none_before = (no, later.none_before); accepted = later.accepted })

  none_found : (ds : List Densities) → NoneAccepted ds → first_accepted F T ds ≡ Err GaveUp
  none_found [] none = nothing_there
  none_found (d ∷ ds) none = passed_over d ds none.0 ∙ none_found ds none.1

  found_none : (ds : List Densities) → first_accepted F T ds ≡ Err GaveUp → NoneAccepted ds
  found_none [] e = tt
  found_none (d ∷ ds) e =
      by (accepts F T d)
      (λ yes. absurd (pair≢refused d.liquid d.vapour GaveUp (sym (taken d ds yes) ∙ e)))
      (λ no. (no, found_none ds (sym (passed_over d ds no) ∙ e)))

  -- ---- the proposer

  -- the two estimates answer, with the starting pair l, v
  pub record Started (l v : Float) : Type 0 where
    pub liquid : saturated_liquid_of F T ≡ Ok l
    pub vapour : saturated_vapour_of F T ≡ Ok v

  begins : {l v : Float} → Started l v → pair_of F T ≡ first_accepted F T (pairs_after F T (pair l v))
  begins s = sym (begun F T (sym s.liquid) (sym s.vapour))

  -- an estimate is not refused with 20
  answered_20 : (x : Float) → answer_from x ≡ Err GaveUp → ⊥
  answered_20 nan e = other_code {d = WorkNotFinite} {e = GaveUp} tt (cc)
  answered_20 (inf s) e = other_code {d = WorkNotFinite} {e = GaveUp} tt (cc)
  answered_20 (fin s m d) e = true≢false (cc)

  estimate_20 : (p : Permit) (x : Float) → p ≡ saturation_permit F T → permitted p (answer_from x) ≡ Err GaveUp → ⊥
  unfolding saturation_permit
  estimate_20 (Ok _) x f e = answered_20 x e
  estimate_20 (Err r) x f e =
      let same : r ≡ GaveUp = cc in
      never_denied GaveUp (saturation_tests F T) tt (sym f ∙ ap Err same)

  liquid_20 : saturated_liquid_of F T ≡ Err GaveUp → ⊥
  unfolding saturated_liquid_of
  liquid_20 e = estimate_20 (saturation_permit F T) (liquid_estimate F T) refl e

  vapour_20 : saturated_vapour_of F T ≡ Err GaveUp → ⊥
  unfolding saturated_vapour_of
  vapour_20 e = estimate_20 (saturation_permit F T) (vapour_estimate F T) refl e

  -- where the proposer does not end as an estimate is refused, both estimates answered
  by_start : {X : Type 0} → ((l v : Float) → Started l v → X) → ((r : Refusal) → pair_of F T ≡ Err r → (r ≡ GaveUp → ⊥) → X) → X
  unfolding pair_of
  by_start {X} started refused = go (saturated_liquid_of F T) (saturated_vapour_of F T) refl refl
    where
      go : (a b : Answer) → saturated_liquid_of F T ≡ a → saturated_vapour_of F T ≡ b → X
      go (Ok l) (Ok v) e f = started l v record { liquid = e; vapour = f }
      go (Ok l) (Err r) e f =
          refused r (ap (λ (a : Answer). started_with F T a (saturated_vapour_of F T)) e ∙ ap (started_with F T (Ok l)) f)
          (λ same. vapour_20 (f ∙ ap Err same))
      go (Err r) b e f =
          refused r (ap (λ (a : Answer). started_with F T a (saturated_vapour_of F T)) e) (λ same. liquid_20 (e ∙ ap Err same))

  -- what the proposer hands on is the first accepted pair of the sequence that begins with the two estimates
  pub record HandedOn (l v : Float) : Type 0 where
    pub l₀ : Float
    pub v₀ : Float
    pub started : Started l₀ v₀
    pub first : First l v (pairs_after F T (pair l₀ v₀))

  pub handed_on_first : (l v : Float) → pair_of F T ≡ Ok (pair l v) → HandedOn l v
  handed_on_first l v e =
      by_start
      (λ l₀ v₀ s. record { l₀ = l₀; v₀ = v₀; started = s; first = first_of l v (pairs_after F T (pair l₀ v₀)) (sym (begins s) ∙ e) })
      (λ r refused other. absurd (pair≢refused l v r (sym e ∙ refused)))

  -- so the judge accepts it
  pub handed_on_accepted : (l v : Float) → pair_of F T ≡ Ok (pair l v) → judge_of F T l v ≡ Ok tt
  unfolding accepts
  handed_on_accepted l v e = is_granted (judge_of F T l v) (handed_on_first l v e).first.accepted

  -- 20 exactly if both estimates answer and no pair of the sequence is accepted
  pub record Without : Type 0 where
    pub l₀ : Float
    pub v₀ : Float
    pub started : Started l₀ v₀
    pub none : NoneAccepted (pairs_after F T (pair l₀ v₀))

  pub gives_up_exactly : (pair_of F T ≡ Err GaveUp) ↔ Without
  gives_up_exactly = (
    λ e. by_start
        (λ l₀ v₀ s. record { l₀ = l₀; v₀ = v₀; started = s; none = found_none (pairs_after F T (pair l₀ v₀)) (sym (begins s) ∙ e) })
        (λ r refused other. absurd (other (same_refusal (sym refused ∙ e)))),
    λ w. begins w.started ∙ none_found (pairs_after F T (pair w.l₀ w.v₀)) w.none,
  )
    where
      same_refusal : {r : Refusal} → ◌≡◌ {A = Result Densities Refusal} (Err r) (Err GaveUp) → r ≡ GaveUp
      same_refusal e = cc
