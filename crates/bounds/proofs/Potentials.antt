-- Entropy, Gibbs and Helmholtz energy refuse with 12 exactly where the inputs are permitted, so the density is above 0, and δ is under
-- 2⁻⁶⁰: there ln δ has no value, and elsewhere the entry's test has shown a number.
use mathlib.Core.Path.{◌≡◌, refl, sym, ap, ◌∙◌, subst}
use mathlib.Core.Logic.{◌↔◌}
use mathlib.Core.Bool.{false, not}
use mathlib.Core.List.{[], ◌∷◌}
use borrow.Author.Tests.{not-true}
use lib.Dec.{T}
use lib.Ieee.{Float, nan, le, eq, is_nan, round}
use lib.Ieee.Scale.{finite}
use Rattle.std.specs.Prelude.{Ok, Err}
use Rattle.refusals.specs.declared.Refusal.TheVariants.{AtZeroDensity, WorkNotFinite}
use Rattle.refusals.specs.Answer.{Permit}
use Rattle.refusals.specs.Order.{first_of, permitted}
use Rattle.refusals.proofs.Needed.{test_passed, also, first_of_both, permitted_granted}
use Rattle.arithmetic.specs.Checked.{real, two⁻, ◌⊕◌, ◌⊖◌}
use Rattle.logarithms.specs.Ln.{ln_of}
use Rattle.arithmetic.specs.Answered.{answer_from}
use Rattle.arithmetic.proofs.Operations.{nan_⊕, nan_⊖}
use Rattle.arithmetic.proofs.Zeros.{times_nan, plus_nan}
use Rattle.arithmetic.proofs.Order.{lt_of_not_le, not_le_of_lt}
use Rattle.fluids.specs.declared.Fluid.{Fluid}
use Rattle.ideal.specs.Ideal.{I0}
use Rattle.equation.specs.declared.state.State.{State}
use Rattle.equation.specs.State.{state_at}
use Rattle.values.specs.Values.{i0, entropy_value, gibbs_over_RT, gibbs_value, helmholtz_value}
use Rattle.properties.specs.Calls.{worked_density, entropy_of, gibbs_of, helmholtz_of}
use Rattle.inputs.specs.Inputs.{state_tests, state_permit, potential_permit}
use Rattle.refusals.proofs.Tests.{by}
use Rattle.intervals.proofs.Fractions.{holds, finite_number}
use Rattle.bounds.specs.NoAnswer.{SmallDensity}
use Rattle.ranges.proofs.Entry.{Finite}
use Rattle.intervals.proofs.Elementary.{ln_outside}
use Rattle.bounds.proofs.Permits.{refused_granted, potential_denied}
use Rattle.bounds.proofs.NeverTwelve.{finite_where_granted}

-- ---- what a granted permit says
also_granted : (p q : Permit) → also p q ≡ Ok tt → (p ≡ Ok tt) × (q ≡ Ok tt)
also_granted (Ok _) q e = (refl, e)
also_granted (Err r) q e = (cc, cc)

module _ (F : Fluid) (t ρ : Float) (granted : potential_permit F t ρ ≡ Ok tt) where
  both : (state_permit F t ρ ≡ Ok tt) × (first_of ((not (eq ρ (real 0)), AtZeroDensity) ∷ []) ≡ Ok tt)
  unfolding potential_permit state_permit
  both = also_granted (first_of (state_tests F t ρ)) (first_of ((not (eq ρ (real 0)), AtZeroDensity) ∷ [])) (sym (first_of_both (state_tests F t ρ) ((not (eq ρ (real 0)), AtZeroDensity) ∷ [])) ∙ granted)

  worked_itself : worked_density ρ ≡ ρ
  unfolding worked_density
  worked_itself = rw (not-true (eq ρ (real 0)) (test_passed (not (eq ρ (real 0))) (Ok tt) AtZeroDensity both.1))

-- ---- with no ln δ there is no value
module _ (x : Float) where
  nan_plus : nan ⊕ x ≡ nan
  nan_plus = (nan_⊕ x).0

  nan_less : nan ⊖ x ≡ nan
  nan_less = (nan_⊖ x).0

  less_nan : x ⊖ nan ≡ nan
  less_nan = (nan_⊖ x).1

module _ (s : State) (small : le (two⁻ 60) s.delta ≡ false) where
  no_ln : ln_of s.delta ≡ nan
  no_ln = ln_outside s.delta (rw small)

  no_i0 : i0 s ≡ nan
  unfolding i0 I0
  no_i0 = simp (no_ln, plus_nan, nan_plus)

  no_helmholtz : helmholtz_value s ≡ nan
  unfolding helmholtz_value
  no_helmholtz = simp (no_i0, nan_plus, times_nan)

  no_gibbs : gibbs_value s ≡ nan
  unfolding gibbs_value gibbs_over_RT
  no_gibbs = simp (no_i0, plus_nan, nan_plus, times_nan)

  no_entropy : entropy_value s ≡ nan
  unfolding entropy_value
  no_entropy = simp (no_i0, less_nan, nan_less, times_nan)

-- ---- the exact condition
tiny_number : is_nan (two⁻ 60) ≡ false
unfolding is_nan round
tiny_number = refl

module _ (F : Fluid) (t ρ : Float) where
  in_range_lem : potential_permit F t ρ ≡ Ok tt → Finite F t ρ
  in_range_lem g = subst (Finite F t) (worked_itself F t ρ g) (finite_where_granted F t ρ (both F t ρ g).0)

  exactly : (v : State → Float) → (potential_permit F t ρ ≡ Ok tt → T (le (two⁻ 60) (state_at F t ρ).delta) → T (finite (v (state_at F t ρ)))) → (le (two⁻ 60) (state_at F t ρ).delta ≡ false → v (state_at F t ρ) ≡ nan)
      → (permitted (potential_permit F t ρ) (answer_from (v (state_at F t (worked_density ρ)))) ≡ Err WorkNotFinite) ↔ SmallDensity F t ρ
  exactly v number none = (
    (λ r.
        let (g, not-Finite) = refused_granted (potential_permit F t ρ) (v (state_at F t (worked_density ρ))) (potential_denied F t ρ) r in (
          g,
          by (le (two⁻ 60) (state_at F t ρ).delta)
              (λ large. absurd (subst T not-Finite (subst (λ (x : Float). T (finite (v (state_at F t x)))) (sym (worked_itself F t ρ g)) (number g (holds (le (two⁻ 60) (state_at F t ρ).delta) large)))))
              (λ small. lt_of_not_le (two⁻ 60) (state_at F t ρ).delta tiny_number (finite_number (state_at F t ρ).delta (in_range_lem g).reduced) small),
        )),
    (λ (g, small).
        permitted_granted (potential_permit F t ρ) (answer_from (v (state_at F t (worked_density ρ)))) g
        ∙ ap answer_from (ap (λ (x : Float). v (state_at F t x)) (worked_itself F t ρ g)
        ∙ none (not_le_of_lt (two⁻ 60) (state_at F t ρ).delta tiny_number (finite_number (state_at F t ρ).delta (in_range_lem g).reduced) small))),
  )

  pub entropy_12 : (entropy_of F t ρ ≡ Err WorkNotFinite) ↔ SmallDensity F t ρ
  unfolding entropy_of
  entropy_12 = exactly entropy_value (λ g. (in_range_lem g).entropy) (no_entropy (state_at F t ρ))

  pub gibbs_12 : (gibbs_of F t ρ ≡ Err WorkNotFinite) ↔ SmallDensity F t ρ
  unfolding gibbs_of
  gibbs_12 = exactly gibbs_value (λ g. (in_range_lem g).gibbs) (no_gibbs (state_at F t ρ))

  pub helmholtz_12 : (helmholtz_of F t ρ ≡ Err WorkNotFinite) ↔ SmallDensity F t ρ
  unfolding helmholtz_of
  helmholtz_12 = exactly helmholtz_value (λ g. (in_range_lem g).helmholtz) (no_helmholtz (state_at F t ρ))
