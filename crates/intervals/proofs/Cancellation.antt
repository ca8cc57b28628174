-- A sum of two binary64 numbers is 0 or not very small: as fractions their denominators are bounded, so their difference is 0 or at least
-- one over the product.
use mathlib.Core.Path.{◌≡◌, refl, ap, subst}
use mathlib.Core.Logic.{◌⊎◌, inl, inr}
use mathlib.Core.Bool.{Bool, true, false, not, ◌&&◌, ◌||◌}
use Prim.Native.Nat.{ℕ, zero, suc, ◌+◌, ◌*◌, ◌%◌, ◌^◌, ◌≤◌, ◌<◌}
use native.Mathlib.Nat.{le_trans, le_of_lt, le_of_eq, eq-or-lt_of_le, pow-suc, mul-le-mul, mul-le-mul_left, mul-le-mul_right, mul-pos}
use native.Mathlib.Omega.{arith}
use lib.Dec.{T, leb, ltb, eqb, eqb→eq, leb→le, nleb→lt, ltb→lt, nltb→le, lit≤, lit<}
use lib.IntN.{pos, negsuc}
use lib.Pow.{pow_pos, pow-add, pow_mono}
use lib.Ieee.{Float, nan, inf, fin, binary64, low, emax, up, down, fits, round, of_int, add, neg, le, lt, eq}
use lib.Ieee.Fits.{eq→eqb, and_l, and_r}
use lib.Ieee.Positive.{num, den, den_pos}
use lib.Ieee.Scale.{finite}
use Rattle.arithmetic.specs.Checked.{real, two⁻}
use Rattle.arithmetic.proofs.Order as tests
use Rattle.intervals.proofs.Fractions.{is_true, chain, plus, less}
use Rattle.intervals.proofs.Rounding.{Rounds, rounds_mono, rounds_up, rounds_flip, sum_rounds}

-- |x| ≥ 2⁻ᵏ
abbrev pub Large : ℕ → Float → Type 0
Large k x = den x ≤ 2 ^ k * num x

second : (a b c d : Bool) → T (a && b && c && d) → T b
second a b c d t = and_r a b (and_l (a && b) c (and_l (a && b && c) d t))

-- then its denominator is at most 2ᵏ⁺⁵³
pub denominator : (k : ℕ) (x : Float) → T (fits binary64 x) → T (finite x) → Large k x → den x ≤ 2 ^ (k + 53)
unfolding fits
denominator k nan f t h = elim t [ ]
denominator k (inf _) f t h = elim t [ ]
denominator k (fin s m (pos e)) f t h = pow_pos (k + 53)
denominator k (fin s zero (negsuc e)) f t h = absurd (omega (arith, den_pos (fin s zero (negsuc e))))
denominator k (fin s (suc m) (negsuc e)) f t h =
    let b = ltb→lt (suc m) (2 ^ 53) (second (eqb (suc m % 2) 1) (ltb (suc m) (2 ^ 53)) (leb (down (negsuc e)) (2 ^ low binary64)) (ltb (suc m * up (negsuc e)) (2 ^ suc (emax binary64) * down (negsuc e))) f) in
    rw pow-add (le_trans h (mul-le-mul_left (2 ^ k) (omega arith)))

-- ---- a rounded fraction (p − n)/c with p ≠ n and c ≤ 2ʲ
tiny_rounds : (j : ℕ) → Rounds binary64 (two⁻ j) 1 0 (2 ^ j)
tiny_rounds j = rounds_up binary64 (two⁻ j) 1 1 0 (2 ^ j) refl refl

zero_is : Rounds binary64 (real 0) 0 0 1
unfolding of_int
zero_is = rounds_up binary64 (real 0) 0 0 0 1 refl refl

-- r is 2⁻ʲ at least, or −2⁻ʲ at most
abbrev pub Apart : ℕ → Float → Type 0
Apart j r = T (le (two⁻ j) r) ⊎ T (le r (neg (two⁻ j)))

module _ (r : Float) (p n c j : ℕ) (C : 0 < c) (R : Rounds binary64 r p n c) where
  above_tiny : c + n * 2 ^ j ≤ p * 2 ^ j → T (le (two⁻ j) r)
  above_tiny h = rounds_mono binary64 (two⁻ j) r 1 0 (2 ^ j) p n c (pow_pos j) C (tiny_rounds j) R (omega arith)

  below_tiny : c + p * 2 ^ j ≤ n * 2 ^ j → T (le r (neg (two⁻ j)))
  below_tiny h = rounds_mono binary64 r (neg (two⁻ j)) p n c 0 1 (2 ^ j) C (pow_pos j) R (rounds_flip binary64 (two⁻ j) 1 0 (2 ^ j) (tiny_rounds j)) (omega arith)

  -- a difference of whole numbers is 0 or 1 at least
  not_equal_apart : c ≤ 2 ^ j → (p ≡ n → ⊥) → Apart j r
  not_equal_apart h d = go (ltb n p) (ltb→lt n p) (nltb→le n p)
    where
      go : (b : Bool) → (T b → n < p) → (T (not b) → p ≤ n) → Apart j r
      go true k l = let s = k tt in inl (above_tiny (omega (arith, mul-le-mul_right (2 ^ j) s)))
      go false k l = elim (eq-or-lt_of_le (l tt)) [
        | inl e ↦ absurd (d e)
        | inr t ↦ inr (below_tiny (omega (arith, mul-le-mul_right (2 ^ j) t)))
      ]

-- ---- what is apart by 2⁻ʲ is apart by less
module _ (i j : ℕ) (h : i ≤ j) where
  tiny_order : T (le (two⁻ j) (two⁻ i))
  tiny_order = rounds_mono binary64 (two⁻ j) (two⁻ i) 1 0 (2 ^ j) 1 0 (2 ^ i) (pow_pos j) (pow_pos i) (tiny_rounds j) (tiny_rounds i) (omega (arith, pow_mono {i = i} {j = j} h))

  minus_tiny_order : T (le (neg (two⁻ i)) (neg (two⁻ j)))
  minus_tiny_order =
      rounds_mono binary64 (neg (two⁻ i)) (neg (two⁻ j)) 0 1 (2 ^ i) 0 1 (2 ^ j) (pow_pos i) (pow_pos j)
      (rounds_flip binary64 (two⁻ i) 1 0 (2 ^ i) (tiny_rounds i)) (rounds_flip binary64 (two⁻ j) 1 0 (2 ^ j) (tiny_rounds j)) (omega (arith, pow_mono {i = i} {j = j} h))

  less_apart : (r : Float) → Apart i r → Apart j r
  less_apart r (inl t) = inl (chain (two⁻ j) (two⁻ i) r tiny_order t)
  less_apart r (inr t) = inr (chain r (neg (two⁻ i)) (neg (two⁻ j)) t minus_tiny_order)

-- ---- a small number does not change the sign of a large one
dominated : (E A dx dy l p n : ℕ) → dx ≤ E * A → E * 2 * n ≤ dy → l ≤ n → dx * dy + (0 * dy + l * dx) * (E * 2) ≤ (A * dy + p * dx) * (E * 2)
dominated E A dx dy l p n h g k =
    let a = mul-le-mul_right dy h in
    let b = mul-le-mul_right dx g in
    let c = mul-le-mul_right (dx * (E * 2)) k in
    omega arith

sum_of_parts : (y : Float) → (plus y ≤ num y) × (less y ≤ num y)
sum_of_parts nan = (omega arith, omega arith)
sum_of_parts (inf s) = (omega arith, omega arith)
sum_of_parts (fin true m e) = (omega arith, omega arith)
sum_of_parts (fin false m e) = (omega arith, omega arith)

small_beside : (k : ℕ) (x y : Float) → T (finite x) → T (finite y) → Large k x → 2 ^ suc k * num y ≤ den y → Apart (suc k) (add binary64 x y)
small_beside k nan y p q h g = elim p [ ]
small_beside k (inf _) y p q h g = elim p [ ]
small_beside k (fin false m e) y p q h g =
    let x = fin false m e in
    inl (above_tiny (add binary64 x y) _ _ (den x * den y) (suc k) (mul-pos (den_pos x) (den_pos y)) (sum_rounds binary64 x y p q)
    (rw pow-suc (dominated (2 ^ k) (num x) (den x) (den y) (less y) (plus y) (num y) h (rw pow-suc at g) (sum_of_parts y).1)))
small_beside k (fin true m e) y p q h g =
    let x = fin true m e in
    inr (below_tiny (add binary64 x y) _ _ (den x * den y) (suc k) (mul-pos (den_pos x) (den_pos y)) (sum_rounds binary64 x y p q)
    (rw pow-suc (dominated (2 ^ k) (num x) (den x) (den y) (plus y) (less y) (num y) h (rw pow-suc at g) (sum_of_parts y).0)))

-- 0 by both orders, and so by the test
abbrev pub Zero : Float → Type 0
Zero r = T (le r (real 0)) × T (le (real 0) r)

pub zero_test : (r : Float) → Zero r → eq r (real 0) ≡ true
unfolding le
zero_test r (a, b) = go (lt r (real 0)) (eq r (real 0)) a (tests.not_lt_of_le (real 0) r (unfold le in is_true (le (real 0) r) b))
  where
    go : (l e : Bool) → T (l || e) → l ≡ false → e ≡ true
    go true e t p = absurd (subst T p tt)
    go false true t p = refl
    go false false t p = absurd t

-- ---- the sum of x, |x| ≥ 2⁻ᵏ with a denominator up to 2ᵈ, and any binary64 is 0 or apart from it
module _ (x y : Float) (p : T (finite x)) (q : T (finite y)) where
  abbrev positives : ℕ
  positives = plus x * den y + plus y * den x

  abbrev negatives : ℕ
  negatives = less x * den y + less y * den x

  zero_rounds : positives ≡ negatives → Zero (add binary64 x y)
  zero_rounds e = (
    rounds_mono binary64 (add binary64 x y) (real 0) _ _ _ 0 0 1 (mul-pos (den_pos x) (den_pos y)) (lit< tt) (sum_rounds binary64 x y p q) zero_is (omega (arith, e)),
    rounds_mono binary64 (real 0) (add binary64 x y) 0 0 1 _ _ _ (lit< tt) (mul-pos (den_pos x) (den_pos y)) zero_is (sum_rounds binary64 x y p q) (omega (arith, e)),
  )

  small_product : (j : ℕ) → den x * den y ≤ 2 ^ j → Zero (add binary64 x y) ⊎ Apart j (add binary64 x y)
  small_product j c = go (eqb positives negatives) (eqb→eq positives negatives) (λ n e. n (eq→eqb e))
    where
      go : (b : Bool) → (T b → positives ≡ negatives) → ((T b → ⊥) → positives ≡ negatives → ⊥) → Zero (add binary64 x y) ⊎ Apart j (add binary64 x y)
      go true z n = inl (zero_rounds (z tt))
      go false z n = inr (not_equal_apart (add binary64 x y) positives negatives (den x * den y) j (mul-pos (den_pos x) (den_pos y)) (sum_rounds binary64 x y p q) c (n (λ t. t)))

  pub sum_apart : (k d : ℕ) → T (fits binary64 y) → Large k x → den x ≤ 2 ^ d → Zero (add binary64 x y) ⊎ Apart (d + (k + 54)) (add binary64 x y)
  sum_apart k d f h g = by_size (leb (den y) (2 ^ suc k * num y)) (leb→le (den y) (2 ^ suc k * num y)) (nleb→lt (den y) (2 ^ suc k * num y))
    where
      both_large : den y ≤ 2 ^ suc k * num y → den x * den y ≤ 2 ^ (d + (k + 54))
      both_large l =
          let s : den y ≤ 2 ^ (k + 54) = le_trans (denominator (suc k) y f q l) (le_of_eq (ap (λ (z : ℕ). 2 ^ z) (omega arith))) in
          rw (pow-add 2 d (k + 54)) (mul-le-mul g s)

      by_size : (b : Bool) → (T b → den y ≤ 2 ^ suc k * num y) → (T (not b) → 2 ^ suc k * num y < den y) → Zero (add binary64 x y) ⊎ Apart (d + (k + 54)) (add binary64 x y)
      by_size true l s = small_product (d + (k + 54)) (both_large (l tt))
      by_size false l s = inr (less_apart (suc k) (d + (k + 54)) (omega arith) (add binary64 x y) (small_beside k x y p q h (le_of_lt (s tt))))

-- ---- 1 + y is 0 or apart from it by 2⁻⁵⁴
one_large : Large 0 (real 1)
unfolding of_int round
one_large = lit≤ tt

one_whole : den (real 1) ≤ 2 ^ 0
unfolding of_int round
one_whole = lit≤ tt

finite_one : T (finite (real 1))
unfolding of_int round
finite_one = tt

pub one_apart : (y : Float) → T (finite y) → T (fits binary64 y) → Zero (add binary64 (real 1) y) ⊎ Apart 54 (add binary64 (real 1) y)
one_apart y q f = sum_apart (real 1) y finite_one q 0 0 f one_large one_whole
