-- A sum, a difference and a minus of values in intervals lie in the interval of the ends' sums: rounding is monotone.
use mathlib.Core.Path.{◌≡◌, refl}
use Prim.Native.Nat.{ℕ, ◌+◌, ◌*◌, ◌≤◌}
use native.Mathlib.Nat.{le_trans, le_of_eq, mul-le-mul_right, mul-pos, add-le-add}
use native.Mathlib.Omega.{arith}
use mathlib.Core.Bool.{true, false}
use lib.Dec.{T}
use lib.Ieee.{Float, fin, binary64, add, sub, neg, le}
use lib.Ieee.Positive.{den, den_pos}
use lib.Ieee.Scale.{finite}
use Rattle.arithmetic.specs.Checked.{minus, ◌⊕◌, ◌⊖◌}
use Rattle.intervals.proofs.Fractions.{rearranged, plus, less, Le}
use Rattle.intervals.proofs.Rounding.{rounds_mono, sum_rounds}
use Rattle.intervals.proofs.Interval.{Interval, unknown, ends, In, anything, inside, interval, result_in, squash_in}

infixl 65 ◌⊞◌ ◌⊟◌
infixl 65 ◌⟨⊕⟩◌ ◌⟨⊖⟩◌
unfoldable pub ◌⊞◌ : Interval → Interval → Interval
unknown ⊞ J = unknown
ends l h ⊞ unknown = unknown
ends l h ⊞ ends k j = interval (add binary64 l k) (add binary64 h j)

sum_cross : (pa na da px nx dx pc nc dc py ny dy : ℕ) → pa * dx + nx * da ≤ px * da + na * dx → pc * dy + ny * dc ≤ py * dc + nc * dy →
    (pa * dc + pc * da) * (dx * dy) + (nx * dy + ny * dx) * (da * dc) ≤ (px * dy + py * dx) * (da * dc) + (na * dc + nc * da) * (dx * dy)
sum_cross pa na da px nx dx pc nc dc py ny dy h g =
    le_trans (le_of_eq (simp rearranged)) (le_trans (add-le-add (mul-le-mul_right (dc * dy) h) (mul-le-mul_right (da * dx) g)) (le_of_eq (simp rearranged)))

pub sum_mono : (l k x y : Float) → T (finite l) → T (finite k) → T (finite x) → T (finite y) → Le l x → Le k y → T (le (add binary64 l k) (add binary64 x y))
sum_mono l k x y p q r s h g =
    rounds_mono binary64 (add binary64 l k) (add binary64 x y) _ _ _ _ _ _ (mul-pos (den_pos l) (den_pos k)) (mul-pos (den_pos x) (den_pos y))
    (sum_rounds binary64 l k p q) (sum_rounds binary64 x y r s)
    (sum_cross (plus l) (less l) (den l) (plus x) (less x) (den x) (plus k) (less k) (den k) (plus y) (less y) (den y) h g)

pub ◌⟨⊕⟩◌ : {I J : Interval} {x y : Float} → In I x → In J y → In (I ⊞ J) (x ⊕ y)
unfolding ◌⊞◌ ◌⊕◌
anything ⟨⊕⟩ b = anything
inside a ⟨⊕⟩ anything = anything
◌⟨⊕⟩◌ {x = x} {y = y} (inside {l} {h} a) (inside {l = k} {h = j} b) =
    result_in (add binary64 l k) (add binary64 h j) (add binary64 x y)
    (λ p q. (
      sum_mono l k x y a.low b.low a.here b.here a.above b.above,
      sum_mono x y h j a.here b.here a.high b.high a.below b.below,
    ))

-- ---- minus
unfoldable pub negated : Interval → Interval
negated unknown = unknown
negated (ends l h) = ends (neg h) (neg l)

pub neg_finite : (x : Float) → T (finite x) → T (finite (neg x))
unfolding neg
neg_finite lib.Ieee.nan p = elim p [ ]
neg_finite (lib.Ieee.inf _) p = elim p [ ]
neg_finite (fin s m e) p = tt

neg_order : (x y : Float) → T (finite x) → T (finite y) → Le x y → Le (neg y) (neg x)
unfolding neg
neg_order lib.Ieee.nan y p q h = elim p [ ]
neg_order (lib.Ieee.inf _) y p q h = elim p [ ]
neg_order (fin false m e) lib.Ieee.nan p q h = elim q [ ]
neg_order (fin false m e) (lib.Ieee.inf _) p q h = elim q [ ]
neg_order (fin true m e) lib.Ieee.nan p q h = elim q [ ]
neg_order (fin true m e) (lib.Ieee.inf _) p q h = elim q [ ]
neg_order (fin true m e) (fin true n d) p q h = omega arith
neg_order (fin true m e) (fin false n d) p q h = omega arith
neg_order (fin false m e) (fin true n d) p q h = omega arith
neg_order (fin false m e) (fin false n d) p q h = omega arith

neg_in : {I : Interval} {x : Float} → In I x → In (negated I) (neg x)
unfolding negated
neg_in anything = anything
neg_in {x = x} (inside {l} {h} a) = inside (record {
  low = neg_finite h a.high;
  high = neg_finite l a.low;
  here = neg_finite x a.here;
  above = neg_order x h a.here a.high a.below;
  below = neg_order l x a.low a.here a.above;
})

pub ⟨minus⟩ : {I : Interval} {x : Float} → In I x → In (negated I) (minus x)
unfolding minus
⟨minus⟩ a = squash_in (neg_in a)

-- ---- the difference
unfoldable pub ◌⊟◌ : Interval → Interval → Interval
I ⊟ J = I ⊞ negated J

difference_is_sum : (x y : Float) → x ⊖ y ≡ x ⊕ neg y
unfolding ◌⊖◌ ◌⊕◌ sub
difference_is_sum x y = refl

pub ◌⟨⊖⟩◌ : {I J : Interval} {x y : Float} → In I x → In J y → In (I ⊟ J) (x ⊖ y)
unfolding ◌⊟◌
◌⟨⊖⟩◌ {x = x} {y = y} a b = rw (difference_is_sum x y) (a ⟨⊕⟩ neg_in b)
