-- A quotient of values in intervals lies between two quotients of the ends, chosen by the dividend's signs, where the divisor's lower end is above 0.
use mathlib.Core.Path.{◌≡◌, refl, subst}
use Prim.Native.Nat.{ℕ, ◌+◌, ◌*◌, ◌≤◌, ◌<◌}
use native.Mathlib.Nat.{le_trans, le_of_eq, mul-le-mul_left, mul-pos}
use native.Mathlib.Omega.{arith}
use mathlib.Core.Bool.{Bool, true, false}
use lib.Dec.{T, ltb→lt, lt→ltb}
use lib.Ieee.{Float, fin, binary64, up, div, le}
use lib.Ieee.Fits.{up_pos, down_pos}
use lib.Ieee.Positive.{den, den_pos, positive, first_pos}
use lib.Ieee.Scale.{finite}
use Rattle.arithmetic.specs.Checked.{◌⊘◌}
use Rattle.intervals.proofs.Fractions.{chain, rearranged, plus, less, Le}
use Rattle.intervals.proofs.Rounding.{Rounds, rounds_mono, quotient_rounds}
use Rattle.intervals.proofs.Interval.{Interval, unknown, ends, Inside, In, anything, inside, interval, result_in, pick}
use Rattle.intervals.proofs.Product.{unsigned, by_sign}

infixl 70 ◌÷◌
infixl 70 ◌⟨⊘⟩◌
-- ---- a divisor above 0
plus_positive : (y : Float) → T (positive y) → 0 < plus y
plus_positive lib.Ieee.nan t = elim t [ ]
plus_positive (lib.Ieee.inf _) t = elim t [ ]
plus_positive (fin true n d) t = elim t [ ]
plus_positive (fin false n d) t = mul-pos (ltb→lt 0 n t) (up_pos d)

positive_less : (y : Float) → T (positive y) → less y ≡ 0
positive_less lib.Ieee.nan t = elim t [ ]
positive_less (lib.Ieee.inf _) t = elim t [ ]
positive_less (fin true n d) t = elim t [ ]
positive_less (fin false n d) t = refl

-- what is above something above 0 is above 0
pub positive_up : (k y : Float) → T (positive k) → T (finite y) → Le k y → T (positive y)
positive_up k lib.Ieee.nan p q h = elim q [ ]
positive_up k (lib.Ieee.inf _) p q h = elim q [ ]
positive_up k (fin true n d) p q h =
    let z = mul-pos (plus_positive k p) (down_pos d) in
    let w = rw (positive_less k p) at h in
    absurd (omega arith)
positive_up k (fin false n d) p q h =
    let z = mul-pos (plus_positive k p) (down_pos d) in
    let w = rw (positive_less k p) at h in
    lt→ltb 0 n (first_pos n (up d) (first_pos (n * up d) (den k) (omega arith)))

-- ---- the quotient rises with the dividend
dividend_cross : (pa na da pb nb db py dy : ℕ) → pa * db + nb * da ≤ pb * da + na * db →
    pa * dy * (py * db) + nb * dy * (py * da) ≤ pb * dy * (py * da) + na * dy * (py * db)
dividend_cross pa na da pb nb db py dy h = le_trans (le_of_eq (simp rearranged)) (le_trans (mul-le-mul_left (dy * py) h) (le_of_eq (simp rearranged)))

quotient_rises : (a b y : Float) → T (finite a) → T (finite b) → T (positive y) → Le a b → T (le (div binary64 a y) (div binary64 b y))
quotient_rises a b y p q s h =
    rounds_mono binary64 _ _ _ _ _ _ _ _ (mul-pos (plus_positive y s) (den_pos a)) (mul-pos (plus_positive y s) (den_pos b))
    (quotient_rounds binary64 a y p s) (quotient_rounds binary64 b y q s)
    (dividend_cross (plus a) (less a) (den a) (plus b) (less b) (den b) (plus y) (den y) h)

-- ---- for a dividend not negative it falls with the divisor, for one not positive it rises
divisor_cross : (c dc pk dk py dy : ℕ) → pk * dy ≤ py * dk → 0 * (py * dc) + c * dy * (pk * dc) ≤ 0 * (pk * dc) + c * dk * (py * dc)
divisor_cross c dc pk dk py dy h =
    let a : c * dy * (pk * dc) ≤ c * dk * (py * dc) = le_trans (le_of_eq (simp rearranged)) (le_trans (mul-le-mul_left (c * dc) h) (le_of_eq (simp rearranged))) in
    omega arith

module _ (c k y : Float) (p : T (finite c)) (q : T (positive k)) (s : T (positive y)) (h : Le k y) where
  divisors : plus k * den y ≤ plus y * den k
  divisors = let z = rw (positive_less k q, positive_less y s) at h in omega arith

  divisor_falls : less c ≡ 0 → T (le (div binary64 c y) (div binary64 c k))
  divisor_falls e =
      rounds_mono binary64 _ _ (plus c * den y) 0 _ (plus c * den k) 0 _ (mul-pos (plus_positive y s) (den_pos c)) (mul-pos (plus_positive k q) (den_pos c))
      (subst (λ (z : ℕ). Rounds binary64 (div binary64 c y) (plus c * den y) z (plus y * den c)) (rw e (omega arith)) (quotient_rounds binary64 c y p s))
      (subst (λ (z : ℕ). Rounds binary64 (div binary64 c k) (plus c * den k) z (plus k * den c)) (rw e (omega arith)) (quotient_rounds binary64 c k p q))
      (let z = divisor_cross (plus c) (den c) (plus k) (den k) (plus y) (den y) divisors in omega arith)

  divisor_rises : plus c ≡ 0 → T (le (div binary64 c k) (div binary64 c y))
  divisor_rises e =
      rounds_mono binary64 _ _ 0 (less c * den k) _ 0 (less c * den y) _ (mul-pos (plus_positive k q) (den_pos c)) (mul-pos (plus_positive y s) (den_pos c))
      (subst (λ (z : ℕ). Rounds binary64 (div binary64 c k) z (less c * den k) (plus k * den c)) (rw e (omega arith)) (quotient_rounds binary64 c k p q))
      (subst (λ (z : ℕ). Rounds binary64 (div binary64 c y) z (less c * den y) (plus y * den c)) (rw e (omega arith)) (quotient_rounds binary64 c y p s))
      (divisor_cross (less c) (den c) (plus k) (den k) (plus y) (den y) divisors)

-- ---- the interval
-- I where the test passes
unfoldable pub only_if : Bool → Interval → Interval
only_if true I = I
only_if false I = unknown

pub only_if_lem : {I : Interval} {x : Float} (b : Bool) → (T b → In I x) → In (only_if b I) x
unfolding only_if
only_if_lem true f = f tt
only_if_lem false f = anything

unfoldable pub quotients : Float → Float → Float → Float → Interval
quotients l h k j = interval (div binary64 l (pick (unsigned l) k j)) (div binary64 h (pick (unsigned h) j k))

unfoldable pub ◌÷◌ : Interval → Interval → Interval
unknown ÷ J = unknown
ends l h ÷ unknown = unknown
ends l h ÷ ends k j = only_if (positive k) (quotients l h k j)

module _ (l h k j x y : Float) (a : Inside l h x) (b : Inside k j y) (pk : T (positive k)) where
  py : T (positive y)
  py = positive_up k y pk b.here b.above

  pj : T (positive j)
  pj = positive_up y j py b.high b.below

  low_end : T (le (div binary64 l (pick (unsigned l) k j)) (div binary64 x y))
  unfolding pick
  low_end =
      let rise = quotient_rises l x y a.low a.here py a.above in
      by_sign (λ (s : Bool). T (le (div binary64 l (pick s k j)) (div binary64 x y))) l a.low
      (λ e. chain (div binary64 l j) (div binary64 l y) (div binary64 x y) (divisor_falls l y j a.low py pj b.below e) rise)
      (λ e. chain (div binary64 l k) (div binary64 l y) (div binary64 x y) (divisor_rises l k y a.low pk py b.above e) rise)

  high_end : T (le (div binary64 x y) (div binary64 h (pick (unsigned h) j k)))
  unfolding pick
  high_end =
      let rise = quotient_rises x h y a.here a.high py a.below in
      by_sign (λ (s : Bool). T (le (div binary64 x y) (div binary64 h (pick s j k)))) h a.high
      (λ e. chain (div binary64 x y) (div binary64 h y) (div binary64 h k) rise (divisor_falls h k y a.high pk py b.above e))
      (λ e. chain (div binary64 x y) (div binary64 h y) (div binary64 h j) rise (divisor_rises h y j a.high py pj b.below e))

  quotient_in : In (quotients l h k j) (x ⊘ y)
  unfolding quotients ◌⊘◌
  quotient_in = result_in _ _ (div binary64 x y) (λ p q. (low_end, high_end))

pub ◌⟨⊘⟩◌ : {I J : Interval} {x y : Float} → In I x → In J y → In (I ÷ J) (x ⊘ y)
unfolding ◌÷◌
anything ⟨⊘⟩ b = anything
inside a ⟨⊘⟩ anything = anything
◌⟨⊘⟩◌ {x = x} {y = y} (inside {l} {h} a) (inside {l = k} {h = j} b) = only_if_lem (positive k) (quotient_in l h k j x y a b)
