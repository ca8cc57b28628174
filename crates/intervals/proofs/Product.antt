-- A product of values in intervals lies in the hull of the products of the ends, two of them where a factor is not negative, else four: for
-- a fixed factor of either sign the product is monotone in the other.
use mathlib.Core.Path.{◌≡◌, refl, ap₂}
use mathlib.Core.Logic.{◌⊎◌, inl, inr}
use Prim.Native.Nat.{ℕ, ◌+◌, ◌*◌, ◌≤◌, ◌<◌}
use native.Mathlib.Nat.{le_trans, le_of_eq, mul-le-mul_left, le_of_mul-le-mul_right, mul-pos, mul_comm}
use native.Mathlib.Omega.{arith}
use mathlib.Core.Bool.{Bool, true, false}
use lib.Dec.{T}
use lib.Ieee.{Float, nan, inf, fin, binary64, up, down, round, mul, le}
use lib.Ieee.Fits.{down_pos}
use lib.Ieee.Positive.{den, den_pos}
use lib.Ieee.Scale.{finite}
use Rattle.arithmetic.specs.Checked.{◌⊗◌}
use Rattle.intervals.proofs.Fractions.{chain, rearranged, plus, less, Le}
use Rattle.intervals.proofs.Rounding.{Rounds, rounds_mono, rounds_same, product_rounds}
use Rattle.intervals.proofs.Interval.{Interval, unknown, ends, Inside, In, anything, inside, interval, result_in, unsquash_in, pick, hull, hull_left, hull_right, across, across_left, across_right, Amid, amid_in}

infixl 70 ◌⊠◌
infixl 70 ◌⟨⊗⟩◌
-- ---- c·a ≤ c·b for a ≤ b where c is not negative, and the other way round where it is not positive
factor_cross : (pc dc pa na da pb nb db : ℕ) → pa * db + nb * da ≤ pb * da + na * db →
    pc * pa * (dc * db) + pc * nb * (dc * da) ≤ pc * pb * (dc * da) + pc * na * (dc * db)
factor_cross pc dc pa na da pb nb db h = le_trans (le_of_eq (simp rearranged)) (le_trans (mul-le-mul_left (pc * dc) h) (le_of_eq (simp rearranged)))

module _ (c a : Float) (p : T (finite c)) (q : T (finite a)) where
  not_negative_rounds : less c ≡ 0 → Rounds binary64 (mul binary64 c a) (plus c * plus a) (plus c * less a) (den c * den a)
  not_negative_rounds e = rounds_same binary64 _ _ _ _ _ _ (rw e (omega arith)) (rw e (omega arith)) (product_rounds binary64 c a p q)

  not_positive_rounds : plus c ≡ 0 → Rounds binary64 (mul binary64 c a) (less c * less a) (less c * plus a) (den c * den a)
  not_positive_rounds e = rounds_same binary64 _ _ _ _ _ _ (rw e (omega arith)) (rw e (omega arith)) (product_rounds binary64 c a p q)

module _ (c a b : Float) (p : T (finite c)) (q : T (finite a)) (r : T (finite b)) (h : Le a b) where
  product_rises : less c ≡ 0 → T (le (mul binary64 c a) (mul binary64 c b))
  product_rises e =
      rounds_mono binary64 _ _ _ _ _ _ _ _ (mul-pos (den_pos c) (den_pos a)) (mul-pos (den_pos c) (den_pos b))
      (not_negative_rounds c a p q e) (not_negative_rounds c b p r e)
      (factor_cross (plus c) (den c) (plus a) (less a) (den a) (plus b) (less b) (den b) h)

  product_falls : plus c ≡ 0 → T (le (mul binary64 c b) (mul binary64 c a))
  product_falls e =
      rounds_mono binary64 _ _ _ _ _ _ _ _ (mul-pos (den_pos c) (den_pos b)) (mul-pos (den_pos c) (den_pos a))
      (not_positive_rounds c b p r e) (not_positive_rounds c a p q e)
      (let z = factor_cross (less c) (den c) (plus a) (less a) (den a) (plus b) (less b) (den b) h in omega arith)

pub sign_of : (c : Float) → T (finite c) → (less c ≡ 0) ⊎ (plus c ≡ 0)
sign_of nan p = elim p [ ]
sign_of (inf _) p = elim p [ ]
sign_of (fin true m e) p = inr refl
sign_of (fin false m e) p = inl refl

product_amid : (c a b y : Float) → T (finite c) → T (finite a) → T (finite b) → T (finite y) → Le a y → Le y b → Amid (mul binary64 c a) (mul binary64 c b) (mul binary64 c y)
product_amid c a b y p q r s h g = elim (sign_of c p) [
  | inl e ↦ inl (product_rises c a y p q s h e, product_rises c y b p s r g e)
  | inr e ↦ inr (product_falls c y b p s r g e, product_falls c a y p q s h e)
]

product_turned : (x y : Float) → T (finite x) → T (finite y) → mul binary64 x y ≡ mul binary64 y x
unfolding mul
product_turned nan y p q = elim p [ ]
product_turned (inf _) y p q = elim p [ ]
product_turned (fin false m e) nan p q = elim q [ ]
product_turned (fin false m e) (inf _) p q = elim q [ ]
product_turned (fin true m e) nan p q = elim q [ ]
product_turned (fin true m e) (inf _) p q = elim q [ ]
product_turned (fin true m e) (fin true n d) p q = ap₂ (λ (u v : ℕ). round binary64 false u v) (mul_comm (m * up e) (n * up d)) (mul_comm (down e) (down d))
product_turned (fin true m e) (fin false n d) p q = ap₂ (λ (u v : ℕ). round binary64 true u v) (mul_comm (m * up e) (n * up d)) (mul_comm (down e) (down d))
product_turned (fin false m e) (fin true n d) p q = ap₂ (λ (u v : ℕ). round binary64 true u v) (mul_comm (m * up e) (n * up d)) (mul_comm (down e) (down d))
product_turned (fin false m e) (fin false n d) p q = ap₂ (λ (u v : ℕ). round binary64 false u v) (mul_comm (m * up e) (n * up d)) (mul_comm (down e) (down d))

product_amid_left : (a b x y : Float) → T (finite a) → T (finite b) → T (finite x) → T (finite y) → Le a x → Le x b → Amid (mul binary64 a y) (mul binary64 b y) (mul binary64 x y)
product_amid_left a b x y p q r s h g = rw (product_turned a y p s, product_turned b y q s, product_turned x y r s) (product_amid y a b x s p q r h g)

-- ---- the hull of the four products
unfoldable pub four_products : Float → Float → Float → Float → Interval
four_products l h k j = hull (across (mul binary64 l k) (mul binary64 l j)) (across (mul binary64 h k) (mul binary64 h j))

-- c·y lies across the products of c with y's ends
factor_in : (c k j y : Float) → T (finite c) → Inside k j y → In (across (mul binary64 c k) (mul binary64 c j)) (mul binary64 c y)
factor_in c k j y p b =
    unsquash_in (mul binary64 c y)
    (amid_in (mul binary64 c y) (across_left (mul binary64 c k) (mul binary64 c j)) (across_right (mul binary64 c k) (mul binary64 c j))
    (product_amid c k j y p b.low b.high b.here b.above b.below))

four_in : (l h k j x y : Float) → Inside l h x → Inside k j y → In (four_products l h k j) (x ⊗ y)
unfolding four_products ◌⊗◌
four_in l h k j x y a b =
    amid_in (mul binary64 x y)
    (hull_left (across (mul binary64 h k) (mul binary64 h j)) (factor_in l k j y a.low b))
    (hull_right (across (mul binary64 l k) (mul binary64 l j)) (factor_in h k j y a.high b))
    (product_amid_left l h x y a.low a.high a.here b.here a.above a.below)

-- ---- two products are enough by a factor [k, j] that is not negative
abbrev pub unsigned : Float → Bool
unsigned nan = false
unsigned (inf s) = false
unsigned (fin true m e) = false
unsigned (fin false m e) = true

-- c is not negative, or not positive, by its sign
pub by_sign : (X : Bool → Type 0) (c : Float) → T (finite c) → (less c ≡ 0 → X true) → (plus c ≡ 0 → X false) → X (unsigned c)
by_sign X nan p f g = elim p [ ]
by_sign X (inf _) p f g = elim p [ ]
by_sign X (fin true m e) p f g = g refl
by_sign X (fin false m e) p f g = f refl

zero_of : (a c : ℕ) → 0 < c → a * c ≤ 0 → a ≡ 0
zero_of a c C h = let z : a ≤ 0 = le_of_mul-le-mul_right {k = c} (omega arith) C in omega arith

-- what is above something not negative is not negative
above_less : (l x : Float) → T (finite x) → T (unsigned l) → Le l x → less x ≡ 0
above_less l nan p q h = elim p [ ]
above_less l (inf _) p q h = elim p [ ]
above_less nan (fin true m e) p q h = elim q [ ]
above_less (inf _) (fin true m e) p q h = elim q [ ]
above_less (fin true n d) (fin true m e) p q h = elim q [ ]
above_less l (fin false m e) p q h = refl
above_less (fin false n d) (fin true m e) p q h = zero_of (m * up e) (down d) (down_pos d) (omega arith)

unfoldable pub scaled : Float → Float → Float → Float → Interval
scaled l h k j = interval (mul binary64 l (pick (unsigned l) j k)) (mul binary64 h (pick (unsigned h) k j))

module _ (l h k j x y : Float) (a : Inside l h x) (b : Inside k j y) (above : T (unsigned k)) where
  with_y : (u v : Float) → T (finite u) → T (finite v) → Le u v → T (le (mul binary64 u y) (mul binary64 v y))
  with_y u v p q g = rw (product_turned u y p b.here, product_turned v y q b.here) (product_rises y u v b.here p q g (above_less k y b.here above b.above))

  low_end : T (le (mul binary64 l (pick (unsigned l) j k)) (mul binary64 x y))
  unfolding pick
  low_end = by_sign (λ (s : Bool). T (le (mul binary64 l (pick s j k)) (mul binary64 x y))) l a.low
      (λ e. chain (mul binary64 l k) (mul binary64 l y) (mul binary64 x y) (product_rises l k y a.low b.low b.here b.above e) (with_y l x a.low a.here a.above))
      (λ e. chain (mul binary64 l j) (mul binary64 l y) (mul binary64 x y) (product_falls l y j a.low b.here b.high b.below e) (with_y l x a.low a.here a.above))

  high_end : T (le (mul binary64 x y) (mul binary64 h (pick (unsigned h) k j)))
  unfolding pick
  high_end = by_sign (λ (s : Bool). T (le (mul binary64 x y) (mul binary64 h (pick s k j)))) h a.high
      (λ e. chain (mul binary64 x y) (mul binary64 h y) (mul binary64 h j) (with_y x h a.here a.high a.below) (product_rises h y j a.high b.here b.high b.below e))
      (λ e. chain (mul binary64 x y) (mul binary64 h y) (mul binary64 h k) (with_y x h a.here a.high a.below) (product_falls h k y a.high b.low b.here b.above e))

  scaled_in : In (scaled l h k j) (x ⊗ y)
  unfolding scaled ◌⊗◌
  scaled_in = result_in _ _ (mul binary64 x y) (λ p q. (low_end, high_end))

unfoldable pub product_by : Bool → Bool → Float → Float → Float → Float → Interval
product_by true s l h k j = scaled l h k j
product_by false true l h k j = scaled k j l h
product_by false false l h k j = four_products l h k j

unfoldable pub ◌⊠◌ : Interval → Interval → Interval
unknown ⊠ J = unknown
ends l h ⊠ unknown = unknown
ends l h ⊠ ends k j = product_by (unsigned k) (unsigned l) l h k j

turned : (x y : Float) → T (finite x) → T (finite y) → y ⊗ x ≡ x ⊗ y
unfolding ◌⊗◌
turned x y p q = rw (product_turned y x q p)

module _ (l h k j x y : Float) (a : Inside l h x) (b : Inside k j y) where
  product_by_lem : (s u : Bool) → (T s → T (unsigned k)) → (T u → T (unsigned l)) → In (product_by s u l h k j) (x ⊗ y)
  unfolding product_by
  product_by_lem true u p q = scaled_in l h k j x y a b (p tt)
  product_by_lem false true p q = rw (← turned x y a.here b.here) (scaled_in k j l h y x b a (q tt))
  product_by_lem false false p q = four_in l h k j x y a b

pub ◌⟨⊗⟩◌ : {I J : Interval} {x y : Float} → In I x → In J y → In (I ⊠ J) (x ⊗ y)
unfolding ◌⊠◌
anything ⟨⊗⟩ b = anything
inside a ⟨⊗⟩ anything = anything
◌⟨⊗⟩◌ {x = x} {y = y} (inside {l} {h} a) (inside {l = k} {h = j} b) = product_by_lem l h k j x y a b (unsigned k) (unsigned l) (λ t. t) (λ t. t)
