-- The three saturation estimates are finite from the least temperature to the critical one: θ = 1 − T/Tc is 0 or at least 2⁻⁵⁴, so ln θ has a value wherever a power asks for
-- it, and the whole range is worked as one interval.
use mathlib.Core.Path.{◌≡◌, refl, sym, ap, ◌∙◌, subst}
use mathlib.Core.Logic.{inl, inr}
use mathlib.Core.Bool.{Bool, false, ◌&&◌}
use mathlib.Core.List.{List}
use Prim.Native.Nat.{ℕ, zero, suc, ◌+◌, ◌-◌}
use lib.Dec.{T}
use lib.ListN.{length, get_or}
use lib.Ieee.{Float, nan, binary64, fits, of_int, round, le, lt, eq, neg, add}
use lib.Ieee.Fits.{and_l, and_r, neg-fits}
use lib.Ieee.Scale.{finite}
use Rattle.arithmetic.specs.Checked.{real, two⁻, ◌⊖◌, ◌⊘◌}
use Rattle.logarithms.specs.Ln.{ln_of}
use Rattle.arithmetic.proofs.Forced.{forced}
use Rattle.fluids.specs.declared.Estimate.{Estimate}
use Rattle.fluids.specs.declared.Estimate.TheVariants.{Alone, Raised}
use Rattle.fluids.specs.declared.Fluid.{Fluid}
use Rattle.fluids.specs.Entry.{Entry}
use Rattle.fluids.specs.Entries.{entry_of}
use Rattle.saturation.specs.Estimates.{theta_of, term_of, term_at, plus_terms, from_first, series_of, pressure_estimate, liquid_estimate, vapour_estimate}
use Rattle.arithmetic.proofs.Within.{between_finite}
use Rattle.intervals.proofs.Fractions.{chain}
use Rattle.intervals.proofs.Interval.{Interval, ends, In, interval, tested, point, at, known, in_known, lies, lies_in, from_on, from_on_in, ◌▶◌, computed}
use Rattle.intervals.proofs.Sum.{◌⊞◌, ◌⊟◌, ◌⟨⊕⟩◌, ◌⟨⊖⟩◌, neg_finite}
use Rattle.intervals.proofs.Product.{◌⊠◌, ◌⟨⊗⟩◌}
use Rattle.intervals.proofs.Quotient.{◌÷◌, ◌⟨⊘⟩◌}
use Rattle.intervals.proofs.Functions.{exp_over, ⟨exp⟩, power_over, ⟨power⟩}
use Rattle.intervals.proofs.Logarithm.{ln_over, ⟨ln⟩}
use Rattle.intervals.proofs.Representable.{quotient_fits, difference_fits, difference_is}
use Rattle.intervals.proofs.Cancellation.{zero_test, one_apart}

-- ---- the terms, where L holds ln θ unless θ is 0
unfoldable pub estimate_over : Interval → Interval → Estimate → Interval
estimate_over Θ L (Alone n) = point n ⊠ Θ
estimate_over Θ L (Raised n t) = point n ⊠ power_over L t

unfoldable pub estimate_at_over : Interval → Interval → List Estimate → ℕ → Interval
estimate_at_over Θ L terms i = estimate_over Θ L (get_or terms i (Alone nan))

unfoldable pub plus_over : Interval → Interval → List Estimate → Interval → ℕ → ℕ → Interval
plus_over Θ L terms S k zero = S
plus_over Θ L terms S k (suc n) = plus_over Θ L terms S k n ▶ λ S. S ⊞ estimate_at_over Θ L terms (k + n)

abbrev pub from_first_over : Interval → Interval → List Estimate → Interval
from_first_over Θ L terms = plus_over Θ L terms (estimate_at_over Θ L terms 0) 1 (length terms - 1)

module _ {Θ L : Interval} {θ : Float} (h : In Θ θ) (w : eq θ (real 0) ≡ false → In L (ln_of θ)) where
  term_in : (e : Estimate) → In (estimate_over Θ L e) (term_of θ e)
  unfolding estimate_over term_of
  term_in (Alone n) = at n ⟨⊗⟩ h
  term_in (Raised n t) = at n ⟨⊗⟩ ⟨power⟩ θ t w

  term_at_in : (terms : List Estimate) (i : ℕ) → In (estimate_at_over Θ L terms i) (term_at θ terms i)
  unfolding estimate_at_over term_at
  term_at_in terms i = term_in (get_or terms i (Alone nan))

  plus_in : {S : Interval} {s : Float} (terms : List Estimate) → In S s → (k n : ℕ) → In (plus_over Θ L terms S k n) (plus_terms θ terms s k n)
  unfolding plus_over plus_terms
  plus_in terms a k zero = a
  plus_in terms a k (suc n) = simp (computed, forced) (plus_in terms a k n ⟨⊕⟩ term_at_in terms (k + n))

  from_first_in : (terms : List Estimate) → In (from_first_over Θ L terms) (from_first θ terms (length terms))
  unfolding from_first
  from_first_in terms = plus_in terms (term_at_in terms 0) 1 (length terms - 1)

-- ---- the estimates
pub data Three : Type 0 where
  three : (pressure liquid vapour : Interval) → Three

unfoldable pub estimates_over : Entry → Interval → Interval → Interval → Three
estimates_over E Ts Θ L =
    three
    (point E.pc ⊠ exp_over ((point E.Tc ÷ Ts) ⊠ from_first_over Θ L E.pressure_terms))
    (point E.ρc ⊠ plus_over Θ L E.liquid_terms (point (real 1)) 0 (length E.liquid_terms))
    (point E.ρc ⊠ exp_over (from_first_over Θ L E.vapour_terms))

abbrev InThree : Fluid → Float → Three → Type 0
InThree F t (three p l v) = In p (pressure_estimate F t) × In l (liquid_estimate F t) × In v (vapour_estimate F t)

estimates_in : {Ts Θ L : Interval} (F : Fluid) (t : Float) → In Ts t → In Θ (theta_of F t) → (eq (theta_of F t) (real 0) ≡ false → In L (ln_of (theta_of F t))) → InThree F t (estimates_over (entry_of F) Ts Θ L)
unfolding estimates_over pressure_estimate liquid_estimate vapour_estimate series_of
estimates_in F t a h w = simp forced (
  at (entry_of F).pc ⟨⊗⟩ ⟨exp⟩ ((at (entry_of F).Tc ⟨⊘⟩ a) ⟨⊗⟩ from_first_in h w (entry_of F).pressure_terms),
  at (entry_of F).ρc ⟨⊗⟩ plus_in h w (entry_of F).liquid_terms (at (real 1)) 0 (length (entry_of F).liquid_terms),
  at (entry_of F).ρc ⟨⊗⟩ ⟨exp⟩ (from_first_in h w (entry_of F).vapour_terms),
)

-- ---- θ is 0 or at least 2⁻⁵⁴
finite_one : T (finite (real 1))
unfolding of_int round
finite_one = tt

pub finite_two⁻54 : T (finite (two⁻ 54))
unfolding round
finite_two⁻54 = tt

negative : le (real 0) (neg (two⁻ 54)) ≡ false
unfolding of_int round neg le lt eq
negative = refl

one_less : (x : Float) → T (fits binary64 x) → T (finite x) → T (finite (real 1 ⊖ x)) → T (le (real 0) (real 1 ⊖ x)) → eq (real 1 ⊖ x) (real 0) ≡ false → T (le (two⁻ 54) (real 1 ⊖ x))
one_less x f p q above not-zero =
    let e = difference_is (real 1) x q in
    let r = add binary64 (real 1) (neg x) in
    elim (one_apart (neg x) (neg_finite x p) (neg-fits binary64 x f)) [
      | inl z ↦ absurd (subst T (sym (zero_test r z) ∙ ap (λ (y : Float). eq y (real 0)) (sym e) ∙ not-zero) tt)
      | inr (inl t) ↦ subst (λ (y : Float). T (le (two⁻ 54) y)) (sym e) t
      | inr (inr t) ↦
          absurd (subst T negative (chain (real 0) r (neg (two⁻ 54)) (subst (λ (y : Float). T (le (real 0) y)) e above) t))
    ]

-- ---- the computed test of an entry
abbrev pub below_critical : Entry → Interval
below_critical E = interval E.least_T E.Tc

abbrev pub quotients : Entry → Interval
quotients E = below_critical E ÷ point E.Tc

abbrev pub thetas : Entry → Interval
thetas E = point (real 1) ⊟ quotients E

abbrev three_known : Three → Bool
three_known (three p l v) = known p && (known l && known v)

unfoldable pub estimates_known : Entry → Bool
estimates_known E = thetas E ▶ λ Θ. ln_over (from_on (two⁻ 54) Θ) ▶ λ L. three_known (estimates_over E (below_critical E) Θ L)

abbrev pub estimate_ends : Entry → Bool
estimate_ends E = (finite E.least_T && finite E.Tc) && (known (quotients E) && lies (real 0) (thetas E) (real 1))

finite_zero : T (finite (real 0))
unfolding of_int round
finite_zero = tt

three_finite : (F : Fluid) (t : Float) (Z : Three) → T (three_known Z) → InThree F t Z → T (finite (pressure_estimate F t)) × T (finite (liquid_estimate F t)) × T (finite (vapour_estimate F t))
three_finite F t (three Rattle.intervals.proofs.Interval.unknown liquid vapour) k _ = elim k [ ]
three_finite F t (three (ends _ _) Rattle.intervals.proofs.Interval.unknown vapour) k _ = elim k [ ]
three_finite F t (three (ends _ _) (ends _ _) Rattle.intervals.proofs.Interval.unknown) k _ = elim k [ ]
three_finite F t (three (ends _ _) (ends _ _) (ends _ _)) k (p, l, v) = (in_known tt p, in_known tt l, in_known tt v)

module _ (F : Fluid) (fine : T (estimate_ends (entry_of F))) (ok : T (estimates_known (entry_of F))) (t : Float) where
  ends_tested : T (finite (entry_of F).least_T && finite (entry_of F).Tc) × T (known (quotients (entry_of F))) × T (lies (real 0) (thetas (entry_of F)) (real 1))
  ends_tested =
      let rest = and_r (finite (entry_of F).least_T && finite (entry_of F).Tc) (known (quotients (entry_of F)) && lies (real 0) (thetas (entry_of F)) (real 1)) fine in (
        and_l (finite (entry_of F).least_T && finite (entry_of F).Tc) (known (quotients (entry_of F)) && lies (real 0) (thetas (entry_of F)) (real 1)) fine,
        and_l (known (quotients (entry_of F))) (lies (real 0) (thetas (entry_of F)) (real 1)) rest,
        and_r (known (quotients (entry_of F))) (lies (real 0) (thetas (entry_of F)) (real 1)) rest,
      )

  pub estimates_finite : T (le (entry_of F).least_T t) → T (le t (entry_of F).Tc) → T (finite (pressure_estimate F t)) × T (finite (liquid_estimate F t)) × T (finite (vapour_estimate F t))
  unfolding estimates_known theta_of
  estimates_finite low high =
      let a = tested (entry_of F).least_T (entry_of F).Tc t (and_l (finite (entry_of F).least_T) (finite (entry_of F).Tc) ends_tested.0) (and_r (finite (entry_of F).least_T) (finite (entry_of F).Tc) ends_tested.0) low high in
      let x = a ⟨⊘⟩ at (entry_of F).Tc in
      let h = at (real 1) ⟨⊖⟩ x in
      let (above, below) = lies_in (real 0) (real 1) finite_zero finite_one ends_tested.2 h in
      three_finite F t (estimates_over (entry_of F) (below_critical (entry_of F)) (thetas (entry_of F)) (ln_over (from_on (two⁻ 54) (thetas (entry_of F))))) (simp computed at ok)
      (estimates_in F t a h (λ e.
      ⟨ln⟩ (difference_fits (real 1) (t ⊘ (entry_of F).Tc))
      (from_on_in (two⁻ 54) (real 1 ⊖ t ⊘ (entry_of F).Tc) finite_two⁻54
      (one_less (t ⊘ (entry_of F).Tc) (quotient_fits t (entry_of F).Tc) (in_known ends_tested.1 x) (between_finite (real 0) (real 1 ⊖ t ⊘ (entry_of F).Tc) (real 1) finite_zero finite_one above below) above e) h)))
