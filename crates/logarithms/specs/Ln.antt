-- 01, "ln x".
use Rattle.std.specs.Prelude.{◌≡◌, cond, ℕ, zero, suc, ◌+◌, ◌*◌, ◌/◌, ◌%◌, ◌^◌, T, ltb, ℤ, pos, ◌-ℤ◌, Float}
use Rattle.std.specs.Float.{binary64}
use Rattle.std.specs.Float.Ieee.{to_bits, of_bits, of_int, le, lt, up, down}
use Rattle.std.specs.Float.Ieee.Positive.{num, den}
use Rattle.arithmetic.specs.Checked.{real, ◌e-◌, two⁻, within, ◌▷◌, ◌⊕◌, ◌⊖◌, ◌⊗◌, ◌⊘◌}

-- x = m·2ᵉ with 0.75 ≤ m < 1.5, where a value is num / den exactly. For every x from 2⁻⁶⁰ to 2⁶⁰ `m_of x` and `e_of x` below
-- are such m and e, and there are no others (proofs/ExactSplit.antt).
pub record Split (x m : Float) (e : ℤ) : Type 0 where
  pub low : T (le (75 e- 2) m)
  pub high : T (lt m (15 e- 1))
  pub exact : num x * (den m * down e) ≡ num m * up e * den x

-- x's 52 binary digits below the leading one, and its exponent's field
abbrev pub digits : Float → ℕ
digits x = to_bits binary64 x % 2 ^ 52

abbrev pub field : Float → ℕ
field x = to_bits binary64 x / 2 ^ 52 % 2048

-- the field under which the digits t stand for m: 1023 gives 1 up to 1.5, and 1022 gives 0.75 up to 1
abbrev pub m_field : ℕ → ℕ
m_field t = cond (ltb t (2 ^ 51)) 1023 1022

unfoldable pub m_of : Float → Float
m_of x = of_bits binary64 (m_field (digits x) * 2 ^ 52 + digits x)

unfoldable pub e_of : Float → ℤ
e_of x = pos (field x) -ℤ pos (m_field (digits x))

-- for n = 2·k − 1 and the odd numbers below it, down to 1: H = 1/n + s·H
unfoldable pub ln_steps : Float → ℕ → Float → Float
ln_steps s zero H = H
ln_steps s (suc k) H = real 1 ⊘ real (2 * k + 1) ⊕ s ⊗ H ▷ ln_steps s k

-- z = (m−1)/(m+1), s = z·z, H = 1/21, the steps for n = 19, 17, .. 1; (2·z)·H + e·0.6931471805599453
unfoldable pub ln_work : Float → Float → Float
ln_work m e =
    (m ⊖ real 1) ⊘ (m ⊕ real 1) ▷ λ z.
    z ⊗ z ▷ λ s.
    (real 2 ⊗ z) ⊗ ln_steps s 10 (real 1 ⊘ real 21) ⊕ e ⊗ 6931471805599453 e- 16

-- ln x, 2⁻⁶⁰ ≤ x ≤ 2⁶⁰
unfoldable pub ln_of : Float → Float
ln_of x = within (two⁻ 60) (real (2 ^ 60)) x (ln_work (m_of x) (of_int binary64 (e_of x)))
