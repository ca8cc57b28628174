-- Every x from 2⁻⁶⁰ to 2⁶⁰ is m·2ᵉ with 0.75 ≤ m < 1.5 for `m_of x` and `e_of x`, and for no other m and e: each value is compared as its fraction num / den, which its fields show.
use mathlib.Core.Path.{◌≡◌, refl, sym, ap, ◌∙◌, subst}
use mathlib.Core.Bool.{Bool, true, false, not, cond}
use Prim.Native.Nat.{ℕ, zero, suc, ◌+◌, ◌-◌, ◌*◌, ◌/◌, ◌^◌, ◌≤◌, ◌<◌}
use native.Mathlib.Nat.{suc_inj, mul-le-mul_right, mul_right_comm, mul-pos, add-zero, one-mul, eq_of_mul-eq-mul_right, le_of_mul-le-mul_right, pow-succ'}
use native.Mathlib.Omega.{arith}
use lib.Dec.{T, ltb, ltb→lt, lt→ltb, nltb→le}
use lib.IntN.{ℤ, pos, negsuc, ◌-ℤ◌}
use lib.Pow.{pow_pos, pow-add, pow_mono}
use lib.Ieee.{Float, fin, binary64, up, down, to_bits, of_bits, fits, round, of_int, add, sum, le, lt}
use lib.Ieee.Bits.{of_bits-to_bits}
use lib.Ieee.Digits.{back}
use lib.Ieee.Fits.{up_pos, down_pos}
use lib.Ieee.Nearest.{div_same}
use lib.Ieee.Order.{round_mono}
use lib.Ieee.Scale.{finite}
use lib.Ieee.Positive.{num, den, positive, den_pos, positive-finite, positive_of_value, value→cross, le→cross, cross→le, between}
use Rattle.arithmetic.specs.Checked.{real, ◌e-◌, two⁻}
use Rattle.arithmetic.proofs.Order.{lt→le}
use Rattle.logarithms.specs.Ln.{Split, digits, field, m_field, m_of, e_of}
use Rattle.logarithms.proofs.Fields.{pattern, bits_of_value, bits_normal, pattern_value, own_fields_value, m_field_small, m_field_positive, m_units, m_value, m_units_between}

-- ---- 0.75 ≤ m < 1.5, as an order of fractions
pub lt→cross : (x y : Float) → T (positive x) → T (positive y) → T (lt x y) → num x * den y < num y * den x
unfolding lt
lt→cross lib.Ieee.nan y p q h = elim p [ ]
lt→cross (lib.Ieee.inf _) y p q h = elim p [ ]
lt→cross (fin false m e) lib.Ieee.nan p q h = elim q [ ]
lt→cross (fin false m e) (lib.Ieee.inf _) p q h = elim q [ ]
lt→cross (fin false m e) (fin true n d) p q h = elim q [ ]
lt→cross (fin true m e) y p q h = elim p [ ]
lt→cross (fin false m e) (fin false n d) p q h = ltb→lt (m * up e * down d) (n * up d * down e) h

cross→lt : (x y : Float) → T (positive x) → T (positive y) → num x * den y < num y * den x → T (lt x y)
unfolding lt
cross→lt lib.Ieee.nan y p q h = elim p [ ]
cross→lt (lib.Ieee.inf _) y p q h = elim p [ ]
cross→lt (fin false m e) lib.Ieee.nan p q h = elim q [ ]
cross→lt (fin false m e) (lib.Ieee.inf _) p q h = elim q [ ]
cross→lt (fin false m e) (fin true n d) p q h = elim q [ ]
cross→lt (fin true m e) y p q h = elim p [ ]
cross→lt (fin false m e) (fin false n d) p q h = lt→ltb (m * up e * down d) (n * up d * down e) h

-- 3 / 4 ≤ num / den < 3 / 2
record Range (m : Float) : Type 0 where
  above_zero : T (positive m)
  least : 3 * den m ≤ num m * 4
  under : num m * 2 < 3 * den m

range_of_tests : (m : Float) → T (le (75 e- 2) m) → T (lt m (15 e- 1)) → Range m
unfolding round
range_of_tests m l h =
    let p : T (positive m) = between (75 e- 2) m (15 e- 1) tt tt l (lt→le m (15 e- 1) h) in
    record { above_zero = p; least = le→cross (75 e- 2) m tt p l; under = lt→cross m (15 e- 1) p tt h }

range_of_digits : (x : Float) → Range (m_of x)
unfolding m_of
range_of_digits x =
    let m = m_of x in
    let t = digits x in
    let v = m_value t (omega arith) in
    let (l, h) = m_units_between t (omega arith) in
    let c = value→cross m (m_units t) (2 ^ 53) v in
    let d = den_pos m in
    record {
      above_zero = positive_of_value m (m_units t) (2 ^ 53) v (omega arith);
      least = omega (arith, mul-le-mul_right (den m) l);
      under = omega (arith, mul-le-mul_right (den m) h);
    }

pub m_low : (x : Float) → T (le (75 e- 2) (m_of x))
unfolding round
m_low x = let r = range_of_digits x in cross→le (75 e- 2) (m_of x) tt r.above_zero r.least

pub m_high : (x : Float) → T (lt (m_of x) (15 e- 1))
unfolding round
m_high x = let r = range_of_digits x in cross→lt (m_of x) (15 e- 1) r.above_zero tt r.under

-- ---- m + 1 lies between 1 and 4, and so does its rounding
sum_rounds : (x y : Float) → T (positive x) → T (positive y) → add binary64 x y ≡ round binary64 false (num x * den y + num y * den x) (den x * den y)
unfolding add sum
sum_rounds lib.Ieee.nan y p q = elim p [ ]
sum_rounds (lib.Ieee.inf _) y p q = elim p [ ]
sum_rounds (fin false m e) lib.Ieee.nan p q = elim q [ ]
sum_rounds (fin false m e) (lib.Ieee.inf _) p q = elim q [ ]
sum_rounds (fin false m e) (fin true n d) p q = elim q [ ]
sum_rounds (fin true m e) y p q = elim p [ ]
sum_rounds (fin false m e) (fin false n d) p q = refl

pub plus_one_finite : (m : Float) → T (le (75 e- 2) m) → T (lt m (15 e- 1)) → T (finite (add binary64 m (real 1)))
unfolding round of_int
plus_one_finite m l h =
    let r = range_of_tests m l h in
    let d = den_pos m in
    let a = num m * 1 + 1 * den m in
    let c = den m * 1 in
    rw (sum_rounds m (real 1) r.above_zero tt)
    (positive-finite (round binary64 false a c)
    (between (real 1) (round binary64 false a c) (real 4) tt tt
    (round_mono binary64 1 1 a c (omega arith) (omega arith) (omega arith))
    (round_mono binary64 a c 4 1 (omega arith) (omega arith) (omega arith))))

-- ---- x = m·2ᵉ
-- 2 ^ (f - g) is 2 ^ f / 2 ^ g
power_of_difference : (f g : ℕ) → up (pos f -ℤ pos g) * 2 ^ g ≡ down (pos f -ℤ pos g) * 2 ^ f
power_of_difference f zero = rw add-zero (omega arith)
power_of_difference f (suc g) = by_order (ltb f (suc g)) (ltb→lt f (suc g)) (nltb→le f (suc g))
  where
    by_order : (b : Bool) → (T b → f < suc g) → (T (not b) → suc g ≤ f)
        → up (cond b (negsuc (suc g - suc f)) (pos (f - suc g))) * 2 ^ suc g ≡ down (cond b (negsuc (suc g - suc f)) (pos (f - suc g))) * 2 ^ f
    by_order true k l =
        let whole : suc g ≡ suc (suc g - suc f) + f = omega (arith, k tt) in
        one-mul (2 ^ suc g) ∙ ap (λ (z : ℕ). 2 ^ z) whole ∙ pow-add 2 (suc (suc g - suc f)) f
    by_order false k l = sym (pow-add 2 (f - suc g) (suc g)) ∙ ap (λ (z : ℕ). 2 ^ z) (back f (suc g) (l tt)) ∙ sym (one-mul (2 ^ f))

-- a / b is s·F / L and c / d is s·G / L, so they differ by the factor F / G = u / v
same_digits : (a b c d s F G L u v : ℕ) → 0 < L → a * L ≡ s * F * b → c * L ≡ s * G * d → u * G ≡ v * F → a * (d * v) ≡ c * u * b
same_digits a b c d s F G L u v P x m e =
    eq_of_mul-eq-mul_right L P (a * (d * v)) (c * u * b)
    (omega (arith, ap (λ (z : ℕ). z * (d * v)) x, ap (λ (z : ℕ). z * (u * b)) m, ap (λ (z : ℕ). z * (s * d * b)) e))

-- from 2⁻⁶⁰ to 2⁶⁰ x is normal
normal : (x : Float) → le (two⁻ 60) x ≡ true → le x (real (2 ^ 60)) ≡ true → (2 ^ 52 ≤ to_bits binary64 x) × (to_bits binary64 x < 2047 * 2 ^ 52)
unfolding round of_int
normal x l h =
    let l' : T (le (two⁻ 60) x) = subst T (sym l) tt in
    let h' : T (le x (real (2 ^ 60))) = subst T (sym h) tt in
    let p : T (positive x) = between (two⁻ 60) x (real (2 ^ 60)) tt tt l' h' in
    bits_normal x p (omega (arith, le→cross (two⁻ 60) x tt p l')) (omega (arith, le→cross x (real (2 ^ 60)) p tt h'))

pub split_holds : (x : Float) → T (fits binary64 x) → le (two⁻ 60) x ≡ true → le x (real (2 ^ 60)) ≡ true → Split x (m_of x) (e_of x)
unfolding m_of e_of
split_holds x F l h =
    let n = normal x l h in
    let s = 2 ^ 52 + digits x in
    let f = field x in
    let g = m_field (digits x) in
    let x' = value→cross x (s * 2 ^ f) (2 ^ 1075) (own_fields_value x F n.0 n.1) in
    let m' = value→cross (m_of x) (s * 2 ^ g) (2 ^ 1075) (pattern_value g (digits x) (omega (arith, m_field_small (digits x))) (omega arith) (m_field_positive (digits x))) in
    record {
      low = m_low x;
      high = m_high x;
      exact =
          same_digits (num x) (den x) (num (m_of x)) (den (m_of x)) s (2 ^ f) (2 ^ g) (2 ^ 1075) (up (e_of x)) (down (e_of x))
          (pow_pos 1075) x' m' (power_of_difference f g);
    }

-- ---- a value is written in one way, so m and e are the only ones
pub same_value_same : (x y : Float) → T (fits binary64 x) → T (fits binary64 y) → T (positive x) → T (positive y) → num x * den y ≡ num y * den x → x ≡ y
same_value_same x y F G p q h =
    sym (of_bits-to_bits binary64 x F) ∙ ap (of_bits binary64) (bits_of_value x p ∙ ap pattern units ∙ sym (bits_of_value y q)) ∙ of_bits-to_bits binary64 y G
  where
    units : num x * 2 ^ 1074 / den x ≡ num y * 2 ^ 1074 / den y
    units =
        div_same (num x * 2 ^ 1074) (den x) (num y * 2 ^ 1074) (den y) (den_pos x) (den_pos y)
        (mul_right_comm (num x) (2 ^ 1074) (den y) ∙ ap (λ (z : ℕ). z * 2 ^ 1074) h ∙ mul_right_comm (num y) (den x) (2 ^ 1074))

-- 2 ^ e is at most half of 2 ^ e'
abbrev Halved : ℤ → ℤ → Type 0
Halved e e' = 2 * (up e * down e') ≤ up e' * down e

same_power : (a b : ℕ) → (2 * 2 ^ a ≤ 2 ^ b → ⊥) → (2 * 2 ^ b ≤ 2 ^ a → ⊥) → a ≡ b
same_power a b k l =
    let half : (i j : ℕ) → i < j → 2 * 2 ^ i ≤ 2 ^ j = λ i j h. rw pow-succ' at (pow_mono h) in
    let not_below : a < b → ⊥ = λ h. k (half a b h) in
    let not_above : b < a → ⊥ = λ h. l (half b a h) in
    omega arith

pub two_at_least : (a b : ℕ) → 2 ≤ 2 ^ a * 2 ^ suc b
two_at_least a b = rw pow-add at (pow_mono {i = 1} {j = a + suc b} (omega arith))

same_exponent_lem : (e e' : ℤ) → (Halved e e' → ⊥) → (Halved e' e → ⊥) → e ≡ e'
same_exponent_lem (pos a) (pos b) k l = ap pos (same_power a b (λ h. k (omega arith)) (λ h. l (omega arith)))
same_exponent_lem (pos a) (negsuc b) k l = absurd (l (two_at_least a b))
same_exponent_lem (negsuc a) (pos b) k l = absurd (k (two_at_least b a))
same_exponent_lem (negsuc a) (negsuc b) k l = ap negsuc (suc_inj (same_power (suc a) (suc b) (λ h. l (omega arith)) (λ h. k (omega arith))))

split_range : {x m : Float} {e : ℤ} → Split x m e → Range m
split_range {x} {m} s = range_of_tests m s.low s.high

-- both are x
same_product : {x m m' : Float} {e e' : ℤ} → Split x m e → Split x m' e' → num m * den m' * (up e * down e') ≡ num m' * den m * (up e' * down e)
same_product {x} {m} {m'} {e} {e'} s s' =
    eq_of_mul-eq-mul_right (den x) (den_pos x) (num m * den m' * (up e * down e')) (num m' * den m * (up e' * down e))
    (omega (arith, ap (λ (z : ℕ). z * (den m' * down e')) s.exact, ap (λ (z : ℕ). z * (den m * down e)) s'.exact))

-- of two m in the range none is twice the other
not_halved : {x m m' : Float} {e e' : ℤ} → Split x m e → Split x m' e' → Halved e e' → ⊥
not_halved {x} {m} {m'} {e} {e'} s s' h =
    let double : 2 * (num m' * den m) ≤ num m * den m' =
    le_of_mul-le-mul_right {k = up e * down e'} (omega (arith, same_product s s', mul-le-mul_right (num m' * den m) h)) (mul-pos (up_pos e) (down_pos e')) in
    omega (arith, den_pos m', mul-le-mul_right (den m') (split_range s).under, mul-le-mul_right (den m) (split_range s').least)

pub split_unique : (x m m' : Float) (e e' : ℤ) → T (fits binary64 m) → T (fits binary64 m') → Split x m e → Split x m' e' → (m ≡ m') × (e ≡ e')
split_unique x m m' e e' F F' s s' = (same_value_same m m' F F' (split_range s).above_zero (split_range s').above_zero same_value, same_e)
  where
    same_e : e ≡ e'
    same_e = same_exponent_lem e e' (not_halved s s') (not_halved s' s)

    same_value : num m * den m' ≡ num m' * den m
    same_value = eq_of_mul-eq-mul_right (up e * down e) (mul-pos (up_pos e) (down_pos e)) (num m * den m') (num m' * den m) (same_product s (subst (λ (z : ℤ). Split x m' z) (sym same_e) s'))
