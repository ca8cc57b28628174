-- A binary64 whose exponent's field is f and whose digits are t is (2⁵² + t)·2ᶠ / 2¹⁰⁷⁵, read off `of_bits`; and its pattern depends on its value alone, read off `to_bits`.
use mathlib.Core.Path.{◌≡◌, sym, ap, ◌∙◌, subst}
use mathlib.Core.Bool.{Bool, true, false, not, cond}
use Prim.Native.Nat.{ℕ, zero, suc, ◌+◌, ◌-◌, ◌*◌, ◌/◌, ◌%◌, ◌^◌, ◌≤◌, ◌<◌}
use native.Mathlib.Nat.{lt-suc_self, lt_of_lt_of_le, lt_of_le_of_lt, lt_of_not-le, not-le_of_lt, zero-add, mul_assoc, mul-le-mul_right, eq_of_mul-eq-mul_right, pow-suc, le-div_iff_mul-le, div-le_of_le-mul}
use native.Mathlib.Omega.{arith}
use lib.Dec.{T, leb, ltb, eqb, ltb→lt, nltb→le}
use lib.Pow.{pow_pos, pow-add, pow_mono, pow-lt}
use lib.Ieee.{Float, nan, inf, fin, binary64, up, down, size, of_bits, to_bits, of_fields, nan_bits, odd, fits}
use lib.Ieee.Bits.{of_bits-to_bits}
use lib.Ieee.Exact.{HasValue, odd_sign}
use lib.Ieee.Positive.{num, den, positive, den_pos}
use lib.Ieee.Digits.{size-lt, size-le}
use lib.Ieee.Fits.{kept-lt}
use borrow.Author.Tests.{lt-leb, ne_eqb}
use Rattle.logarithms.specs.Ln.{digits, field, m_field}

-- ---- a pattern with no sign is read as its two fields
module _ (f t : ℕ) (F : f < 2047) (D : t < 2 ^ 52) where
  field_read : (f * 2 ^ 52 + t) % 2 ^ 63 / 2 ^ 52 ≡ f
  field_read = omega arith

  digits_read : (f * 2 ^ 52 + t) % 2 ^ 52 ≡ t
  digits_read = omega arith

  no_sign : leb (2 ^ 63) (f * 2 ^ 52 + t) ≡ false
  no_sign = lt-leb (2 ^ 63) (f * 2 ^ 52 + t) (omega arith)

  not_all_ones : eqb f 2047 ≡ false
  not_all_ones = ne_eqb f 2047 (omega arith)

  pattern_no_nan : T (not (nan_bits binary64 (f * 2 ^ 52 + t)))
  unfolding nan_bits
  pattern_no_nan = rw (field_read, not_all_ones) tt

  fields_read : of_bits binary64 (f * 2 ^ 52 + t) ≡ of_fields binary64 false f t
  unfolding of_bits
  fields_read = rw (no_sign, field_read, digits_read)

-- ---- its value
-- a / c and b / d are one fraction
same_fraction : (x : Float) (a c b d : ℕ) → 0 < c → a * d ≡ b * c → HasValue x false a c → HasValue x false b d
same_fraction nan a c b d C h v = v
same_fraction (inf s) a c b d C h v = v
same_fraction (fin s m e) a c b d C h (q, v) = (q, eq_of_mul-eq-mul_right c C (m * up e * d) (b * down e) (omega (arith, ap (λ (z : ℕ). z * d) v, ap (λ (z : ℕ). z * down e) h)))

suc_moves : (s f l : ℕ) → s * 2 ^ f * 2 ^ suc l ≡ s * 2 ^ suc f * 2 ^ l
suc_moves s f l = rw (pow-suc 2 l, pow-suc 2 f) (omega arith)

pub pattern_value : (f t : ℕ) → f < 2047 → t < 2 ^ 52 → 0 < f → HasValue (of_bits binary64 (f * 2 ^ 52 + t)) false ((2 ^ 52 + t) * 2 ^ f) (2 ^ 1075)
unfolding of_fields
pattern_value zero t F D P = absurd (omega arith)
pattern_value (suc f) t F D P =
    let s = 2 ^ 52 + t in
    rw (fields_read (suc f) t F D, not_all_ones (suc f) t F D)
    (same_fraction (odd 53 false s f 1074) (s * 2 ^ f) (2 ^ 1074) (s * 2 ^ suc f) (2 ^ 1075) (pow_pos 1074) (suc_moves s f 1074) (odd_sign 53 false s f 1074))

-- ---- the pattern of m
m_field_lem : (b : Bool) → (cond b 1023 1022 ≤ 1023) × (0 < cond b 1023 1022)
m_field_lem true = omega arith
m_field_lem false = omega arith

pub m_field_small : (t : ℕ) → m_field t ≤ 1023
m_field_small t = (m_field_lem (ltb t (2 ^ 51))).0

pub m_field_positive : (t : ℕ) → 0 < m_field t
m_field_positive t = (m_field_lem (ltb t (2 ^ 51))).1

pub m_pattern_fits : (t : ℕ) → t < 2 ^ 52 → m_field t * 2 ^ 52 + t < 2 ^ 64
m_pattern_fits t D = omega (arith, m_field_small t)

pub m_pattern_no_nan : (t : ℕ) → t < 2 ^ 52 → T (not (nan_bits binary64 (m_field t * 2 ^ 52 + t)))
m_pattern_no_nan t D = pattern_no_nan (m_field t) t (omega (arith, m_field_small t)) D

-- m in units of 2⁻⁵³
abbrev pub m_units : ℕ → ℕ
m_units t = (2 ^ 52 + t) * cond (ltb t (2 ^ 51)) 2 1

pub m_value : (t : ℕ) → t < 2 ^ 52 → HasValue (of_bits binary64 (m_field t * 2 ^ 52 + t)) false (m_units t) (2 ^ 53)
m_value t D =
    same_fraction (of_bits binary64 (m_field t * 2 ^ 52 + t)) (s * 2 ^ m_field t) (2 ^ 1075) (m_units t) (2 ^ 53) (pow_pos 1075) (same (ltb t (2 ^ 51)))
    (pattern_value (m_field t) t (omega (arith, m_field_small t)) D (m_field_positive t))
  where
    s : ℕ
    s = 2 ^ 52 + t

    same : (b : Bool) → s * 2 ^ cond b 1023 1022 * 2 ^ 53 ≡ s * cond b 2 1 * 2 ^ 1075
    same true = mul_assoc s (2 ^ 1023) (2 ^ 53) ∙ sym (mul_assoc s 2 (2 ^ 1075))
    same false = mul_assoc s (2 ^ 1022) (2 ^ 53) ∙ sym (mul_assoc s 1 (2 ^ 1075))

pub m_units_between : (t : ℕ) → t < 2 ^ 52 → (3 * 2 ^ 51 ≤ m_units t) × (m_units t < 3 * 2 ^ 52)
m_units_between t D = by_test (ltb t (2 ^ 51)) (ltb→lt t (2 ^ 51)) (nltb→le t (2 ^ 51))
  where
    by_test : (b : Bool) → (T b → t < 2 ^ 51) → (T (not b) → 2 ^ 51 ≤ t) → (3 * 2 ^ 51 ≤ (2 ^ 52 + t) * cond b 2 1) × ((2 ^ 52 + t) * cond b 2 1 < 3 * 2 ^ 52)
    by_test true k l = omega (arith, k tt)
    by_test false k l = omega (arith, l tt)

-- ---- the pattern of a value
-- what `to_bits` writes for n of the smallest values
abbrev pub pattern : ℕ → ℕ
pattern n = (size n - 53) * 2 ^ 52 + n / 2 ^ (size n - 53)

pub bits_of_value : (x : Float) → T (positive x) → to_bits binary64 x ≡ pattern (num x * 2 ^ 1074 / den x)
unfolding to_bits
bits_of_value nan p = elim p [ ]
bits_of_value (inf _) p = elim p [ ]
bits_of_value (fin true m e) p = elim p [ ]
bits_of_value (fin false m e) p = rw zero-add

size_above : (n j : ℕ) → 2 ^ j ≤ n → j < size n
size_above n j h = lt_of_not-le (λ (g : size n ≤ j). not-le_of_lt (lt_of_lt_of_le (size-lt n) (pow_mono g)) h)

size_below : (n j : ℕ) → n ≤ 2 ^ j → size n ≤ suc j
size_below n j h = size-le n (suc j) (lt_of_le_of_lt h (pow-lt (lt-suc_self j)))

-- from 2⁻⁶⁰ to 2⁶⁰ the value is normal
pattern_normal : (n : ℕ) → 2 ^ 1014 ≤ n → n ≤ 2 ^ 1134 → (2 ^ 52 ≤ pattern n) × (pattern n < 2047 * 2 ^ 52)
pattern_normal n l h = omega (arith, size_above n 1014 l, size_below n 1134 h, kept-lt 53 n)

units_above : (a c j l : ℕ) → 0 < c → c ≤ a * 2 ^ j → 2 ^ l ≤ a * 2 ^ (j + l) / c
units_above a c j l C h = (le-div_iff_mul-le C).1 (rw pow-add (let k = mul-le-mul_right (2 ^ l) h in omega arith))

units_below : (a c j l : ℕ) → 0 < c → a ≤ 2 ^ j * c → a * 2 ^ l / c ≤ 2 ^ (j + l)
units_below a c j l C h = div-le_of_le-mul c (rw pow-add (let k = mul-le-mul_right (2 ^ l) h in omega arith))

pub bits_normal : (x : Float) → T (positive x) → den x ≤ num x * 2 ^ 60 → num x ≤ 2 ^ 60 * den x → (2 ^ 52 ≤ to_bits binary64 x) × (to_bits binary64 x < 2047 * 2 ^ 52)
bits_normal x p l h = rw (bits_of_value x p) (pattern_normal (num x * 2 ^ 1074 / den x) (units_above (num x) (den x) 60 1014 (den_pos x) l) (units_below (num x) (den x) 60 1074 (den_pos x) h))

-- a normal value is its digits under its field
pub own_fields_value : (x : Float) → T (fits binary64 x) → 2 ^ 52 ≤ to_bits binary64 x → to_bits binary64 x < 2047 * 2 ^ 52 → HasValue x false ((2 ^ 52 + digits x) * 2 ^ field x) (2 ^ 1075)
own_fields_value x F l h =
    let whole : field x * 2 ^ 52 + digits x ≡ to_bits binary64 x = omega arith in
    subst (λ (z : Float). HasValue z false ((2 ^ 52 + digits x) * 2 ^ field x) (2 ^ 1075))
    (ap (of_bits binary64) whole ∙ of_bits-to_bits binary64 x F)
    (pattern_value (field x) (digits x) (omega arith) (omega arith) (omega arith))
