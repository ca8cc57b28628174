-- Isobaric heat capacity and sound speed: V, K and Q are always numbers, so 12 comes only after 11 has been passed. Sound speed then
-- refuses exactly where the root's argument leaves 1 .. 10⁸. Isobaric heat capacity answers unless 1 + 2·S1 is exactly 0 and Q, which is
-- S2 then, lies under 2⁻⁹³⁰: a sum of two binary64 numbers is 0 or not very small.
use mathlib.Core.Path.{◌≡◌, refl, sym, ap, ◌∙◌, subst}
use mathlib.Core.Logic.{◌↔◌, inl, inr}
use mathlib.Core.Bool.{true, false, not, ◌&&◌}
use mathlib.Core.List.{[], ◌∷◌}
use Prim.Native.Nat.{◌^◌}
use native.Mathlib.Omega.{arith}
use borrow.Author.Tests.{not-true}
use lib.Dec.{T}
use lib.Ieee.{Float, fin, binary64, fits, of_int, round, add, neg, le, lt, eq}
use lib.Ieee.Scale.{finite}
use Rattle.std.specs.Prelude.{Ok, Err}
use Rattle.refusals.specs.declared.Refusal.TheVariants.{NotStable, WorkNotFinite}
use Rattle.refusals.specs.Answer.{Permit}
use Rattle.refusals.specs.Order.{permitted}
use Rattle.refusals.proofs.Needed.{test_passed}
use Rattle.refusals.proofs.InOrder.{never_denied}
use Rattle.arithmetic.specs.Checked.{real, two⁻, between, ◌⊕◌, ◌⊗◌}
use Rattle.roots.specs.Root.{root_of}
use Rattle.arithmetic.specs.Answered.{answer_from}
use Rattle.fluids.specs.declared.Fluid.{Fluid}
use Rattle.kept.specs.Kept.{kept_of}
use Rattle.equation.specs.State.{state_of, state_at}
use Rattle.kept.proofs.Parts.{kept_fluid, kept_t}
use Rattle.arithmetic.proofs.Operations.{⊖_squashed}
use Rattle.stability.specs.Stability.{«V», K, Q, stability_of, sound_speed_from, isobaric_value, sound_speed_value}
use Rattle.properties.specs.Calls.{worked_density, stable_of, stability_permit, isobaric_of, sound_speed_of}
use Rattle.inputs.specs.Inputs.{state_permit}
use Rattle.refusals.proofs.Tests.{by, and_passed}
use Rattle.bounds.specs.NoAnswer.{StableState, root_argument, VanishingQ}
use Rattle.intervals.proofs.Fractions.{is_true, holds, chain, order_of_test}
use Rattle.intervals.proofs.Representable.{sum_fits, product_fits, sum_is, summands_finite}
use Rattle.ranges.proofs.Rows.{s2_fits}
use Rattle.intervals.proofs.Cancellation.{Large, Apart, zero_test, denominator, sum_apart, one_apart}
use Rattle.intervals.proofs.Elementary.{root_in_range, root_outside}
use Rattle.ranges.proofs.Estimates.{finite_two⁻54}
use Rattle.intervals.proofs.Sum.{neg_finite}
use Rattle.bounds.proofs.Permits.{refused_granted, state_denied}
use Rattle.bounds.proofs.NeverTwelve.{finite_where_granted}

-- ---- V, K and Q are numbers, so the permit of 11 does not deny with 12
stable_denied : (v k q : Float) → T (finite v) → T (finite k) → T (finite q) → stable_of v k q ≡ Err WorkNotFinite → ⊥
unfolding stable_of
stable_denied v k q fv fk fq e =
    never_denied WorkNotFinite ((not (le q (real 0)) && not (le v (real 0)), NotStable) ∷ []) tt
    (rw (is_true (finite v) fv, is_true (finite k) fk, is_true (finite q) fq) at e)

stable_positive : (v k q : Float) → T (finite v) → T (finite k) → T (finite q) → stable_of v k q ≡ Ok tt → le q (real 0) ≡ false
unfolding stable_of
stable_positive v k q fv fk fq e =
    let both = test_passed (not (le q (real 0)) && not (le v (real 0))) (Ok tt) NotStable (rw (is_true (finite v) fv, is_true (finite k) fk, is_true (finite q) fq) at e) in
    not-true (le q (real 0)) (and_passed (not (le q (real 0))) (not (le v (real 0))) both).0

-- an answer behind two permits is 12 only where both are granted
both_granted : (p s : Permit) (v : Float) → (p ≡ Err WorkNotFinite → ⊥) → (p ≡ Ok tt → s ≡ Err WorkNotFinite → ⊥) → permitted p (permitted s (answer_from v)) ≡ Err WorkNotFinite
    → (p ≡ Ok tt) × (s ≡ Ok tt) × (finite v ≡ false)
both_granted (Ok _) s v n m e = let (g, f) = refused_granted s v (m refl) e in (refl, g, f)
both_granted (Err r) s v n m e = absurd (n (cc))

-- ---- how small Q can be
-- what is apart from 0 by 2⁻⁵⁴ is that large
apart_large : (x : Float) → T (finite x) → Apart 54 x → Large 54 x
unfolding round neg
apart_large lib.Ieee.nan f _ = elim f [ ]
apart_large (lib.Ieee.inf _) f _ = elim f [ ]
apart_large (fin true m e) f (inl t) = let h = order_of_test (two⁻ 54) (fin true m e) finite_two⁻54 f t in omega arith
apart_large (fin false m e) f (inl t) = let h = order_of_test (two⁻ 54) (fin false m e) finite_two⁻54 f t in omega arith
apart_large (fin true m e) f (inr t) = let h = order_of_test (fin true m e) (neg (two⁻ 54)) f (neg_finite (two⁻ 54) finite_two⁻54) t in omega arith
apart_large (fin false m e) f (inr t) = let h = order_of_test (fin false m e) (neg (two⁻ 54)) f (neg_finite (two⁻ 54) finite_two⁻54) t in omega arith

not_positive : T (le (neg (two⁻ 215)) (real 0))
unfolding of_int round neg le lt eq
not_positive = tt

smaller : T (le (two⁻ 930) (two⁻ 215))
unfolding round le lt eq
smaller = tt

-- (1 + x) + s above 0 is 2⁻²¹⁵ at least, unless 1 + x is 0
q_large : (x s : Float) → T (fits binary64 x) → T (fits binary64 s) → T (finite (real 1 ⊕ x ⊕ s)) → le (real 1 ⊕ x ⊕ s) (real 0) ≡ false → eq (real 1 ⊕ x) (real 0) ≡ false → T (le (two⁻ 215) (real 1 ⊕ x ⊕ s))
q_large x s fx fs f above not-zero =
    let a = real 1 ⊕ x in
    let (fa, ft) = summands_finite a s f in
    let first = sum_is (real 1) x fa in
    let whole = sum_is a s f in
    let refute : T (le (add binary64 a s) (real 0)) → ⊥ = λ t. subst T (ap (λ (y : Float). le y (real 0)) (sym whole) ∙ above) t in
    elim (one_apart x (summands_finite (real 1) x fa).1 fx) [
      | inl z ↦ absurd (subst T (sym (zero_test (add binary64 (real 1) x) z) ∙ ap (λ (y : Float). eq y (real 0)) (sym first) ∙ not-zero) tt)
      | inr far ↦
          let large = apart_large a fa (subst (Apart 54) (sym first) far) in
          elim (sum_apart a s fa ft 54 107 fs large (denominator 54 a (sum_fits (real 1) x) fa large)) [
            | inl z ↦ absurd (refute z.0)
            | inr (inl t) ↦ subst (λ (y : Float). T (le (two⁻ 215) y)) (sym whole) t
            | inr (inr t) ↦
                absurd (refute (chain (add binary64 a s) (neg (two⁻ 215)) (real 0) t not_positive))
          ]
    ]

module _ (F : Fluid) (t ρ : Float) where
  stability_denied : state_permit F t ρ ≡ Ok tt → stability_permit (state_at F t (worked_density ρ)) ≡ Err WorkNotFinite → ⊥
  unfolding stability_permit
  stability_denied g =
      let f = finite_where_granted F t ρ g in
      stable_denied («V» (state_at F t (worked_density ρ))) (K (state_at F t (worked_density ρ))) (Q (state_at F t (worked_density ρ))) f.v f.k f.q

  -- ---- sound speed
  -- its value is the root of the argument
  sound_speed_is : sound_speed_value (state_at F t (worked_density ρ)) ≡ root_of (root_argument F t ρ)
  unfolding sound_speed_value sound_speed_from stability_of «V» state_of
  sound_speed_is = simp (⊖_squashed, kept_fluid, kept_t)

  pub sound_speed_12 : (sound_speed_of F t ρ ≡ Err WorkNotFinite) ↔ (StableState F t ρ × (between (real 1) (root_argument F t ρ) (real (10 ^ 8)) ≡ false))
  unfolding sound_speed_of
  sound_speed_12 = (
    (λ r.
        let (g, s, n) = both_granted (state_permit F t ρ) (stability_permit (state_at F t (worked_density ρ))) (root_of (root_argument F t ρ)) (state_denied F t ρ) stability_denied (rw sound_speed_is at r) in
        ((g, s), by (between (real 1) (root_argument F t ρ) (real (10 ^ 8))) (λ p. absurd (subst T n (root_in_range (root_argument F t ρ) p))) (λ p. p))),
    (λ ((g, s), p). rw (sound_speed_is, g, s, root_outside (root_argument F t ρ) p) refl),
  )

  -- ---- isobaric heat capacity
  abbrev first_of_Q : Float
  first_of_Q = real 1 ⊕ real 2 ⊗ (state_at F t (worked_density ρ)).sums.s1

  q_above : state_permit F t ρ ≡ Ok tt → stability_permit (state_at F t (worked_density ρ)) ≡ Ok tt → eq first_of_Q (real 0) ≡ false → T (le (two⁻ 930) (Q (state_at F t (worked_density ρ))))
  unfolding stability_permit
  q_above g s n =
      let f = finite_where_granted F t ρ g in
      let above = stable_positive («V» (state_at F t (worked_density ρ))) (K (state_at F t (worked_density ρ))) (Q (state_at F t (worked_density ρ))) f.v f.k f.q s in
      unfold Q in
      chain (two⁻ 930) (two⁻ 215) (real 1 ⊕ real 2 ⊗ (state_at F t (worked_density ρ)).sums.s1 ⊕ (state_at F t (worked_density ρ)).sums.s2) smaller
      (q_large (real 2 ⊗ (state_at F t (worked_density ρ)).sums.s1) (state_at F t (worked_density ρ)).sums.s2 (product_fits _ _) (unfold state_of in s2_fits (kept_of F t) _) f.q above n)

  -- 12 only where 1 + 2·S1 is 0 and Q, which is S2 then, is above 0 and under 2⁻⁹³⁰
  pub isobaric_12 : isobaric_of F t ρ ≡ Err WorkNotFinite → StableState F t ρ × VanishingQ F t ρ
  unfolding isobaric_of
  isobaric_12 r =
      let (g, s, n) = both_granted (state_permit F t ρ) (stability_permit (state_at F t (worked_density ρ))) (isobaric_value (state_at F t (worked_density ρ))) (state_denied F t ρ) stability_denied r in
      let small : le (two⁻ 930) (Q (state_at F t (worked_density ρ))) ≡ false =
      by (le (two⁻ 930) (Q (state_at F t (worked_density ρ))))
      (λ large. absurd (subst T n ((finite_where_granted F t ρ g).isobaric (holds (le (two⁻ 930) (Q (state_at F t (worked_density ρ)))) large))))
      (λ small. small) in
      let zero_first : eq first_of_Q (real 0) ≡ true =
      by (eq first_of_Q (real 0)) (λ z. z) (λ z. absurd (subst T small (q_above g s z))) in
      ((g, s), (zero_first, small))
