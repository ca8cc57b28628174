-- Of two values in order the exponents of x = m·2ᵉ, 0.75 ≤ m < 1.5, stand in that order, and so do the m where the exponents are the same:
-- 2ᵉ and 2ᶠ are compared as fractions, and of two m none is twice the other.
use mathlib.Core.Path.{◌≡◌, refl, ap}
use mathlib.Core.Bool.{Bool, true, false, not}
use Prim.Native.Nat.{ℕ, zero, suc, ◌*◌, ◌^◌, ◌≤◌, ◌<◌}
use native.Mathlib.Nat.{mul-le-mul_right, mul-le-mul, mul-pos, le_of_mul-le-mul_right, pow-succ', pow-suc}
use native.Mathlib.Omega.{arith}
use lib.Dec.{T, ltb, ltb→lt, nltb→le, lit<}
use lib.IntN.{ℤ, pos, negsuc}
use lib.Pow.{pow_pos, pow_mono}
use lib.Ieee.{Float, binary64, up, down, round, of_int, le}
use lib.Ieee.Fits.{up_pos, down_pos}
use lib.Ieee.Order.{round_mono}
use lib.Ieee.Positive.{num, den, positive, den_pos, le→cross, cross→le, between}
use Rattle.arithmetic.specs.Checked.{◌e-◌}
use Rattle.logarithms.specs.Ln.{Split}
use Rattle.logarithms.proofs.ExactSplit.{lt→cross, two_at_least}
use Rattle.arithmetic.proofs.Order.{lt→le}
use Rattle.intervals.proofs.Rounding.{round_anti, signs_apart}

-- ---- powers of two
-- 2ᵉ is at most half of 2ᶠ; 2ᵉ ≤ 2ᶠ
abbrev pub Halved : ℤ → ℤ → Type 0
Halved e f = 2 * (up e * down f) ≤ up f * down e

abbrev pub PowerLe : ℤ → ℤ → Type 0
PowerLe e f = up e * down f ≤ up f * down e

pub power_trans : (e f g : ℤ) → PowerLe e f → PowerLe f g → PowerLe e g
power_trans e f g h k =
    le_of_mul-le-mul_right {k = up f * down f} (omega (arith, mul-le-mul h k)) (mul-pos (up_pos f) (down_pos f))

doubled : (a b : ℕ) → a < b → 2 * 2 ^ a ≤ 2 ^ b
doubled a b h = rw pow-succ' at (pow_mono h)

-- where 2ᵃ is not at most half of 2ᵇ, b is not above a
not_above : (a b : ℕ) → (2 * 2 ^ a ≤ 2 ^ b → ⊥) → b ≤ a
not_above a b k = go (ltb a b) (ltb→lt a b) (nltb→le a b)
  where
    go : (t : Bool) → (T t → a < b) → (T (not t) → b ≤ a) → b ≤ a
    go true l n = absurd (k (doubled a b (l tt)))
    go false l n = n tt

-- so the powers and the exponents stand in one order
pub exponents : (e f : ℤ) → (Halved e f → ⊥) → PowerLe f e × T (le (of_int binary64 f) (of_int binary64 e))
unfolding of_int
exponents (pos a) (pos b) k =
    let h = not_above a b (λ g. k (omega arith)) in
    (omega (arith, pow_mono h), round_mono binary64 b 1 a 1 (lit< tt) (lit< tt) (omega arith))
exponents (pos a) (negsuc b) k = (omega (arith, mul-pos (pow_pos a) (pow_pos (suc b))), signs_apart binary64 (suc b) 1 a 1)
exponents (negsuc a) (pos b) k = absurd (k (two_at_least b a))
exponents (negsuc a) (negsuc b) k =
    let h = not_above (suc b) (suc a) (λ g. k (omega arith)) in
    (omega (arith, pow_mono h), round_anti binary64 (suc a) 1 (suc b) 1 (lit< tt) (lit< tt) (omega arith))

-- ---- the parts of two values in order
module _ {x m : Float} {e : ℤ} (s : Split x m e) where
  split_positive : T (positive m)
  unfolding round
  split_positive = between (75 e- 2) m (15 e- 1) tt tt s.low (lt→le m (15 e- 1) s.high)

  split_least : 3 * den m ≤ num m * 4
  unfolding round
  split_least = le→cross (75 e- 2) m tt split_positive s.low

  split_under : num m * 2 < 3 * den m
  unfolding round
  split_under = lt→cross m (15 e- 1) split_positive tt s.high

module _ {x y m n : Float} {e f : ℤ} (s : Split x m e) (t : Split y n f) (h : num x * den y ≤ num y * den x) where
  -- m·2ᵉ ≤ n·2ᶠ
  split_order : num m * den n * (up e * down f) ≤ num n * den m * (up f * down e)
  split_order =
      le_of_mul-le-mul_right {k = den x * den y}
      (omega (arith, ap (λ (z : ℕ). z * (den n * down f * den y)) s.exact, ap (λ (z : ℕ). z * (den m * down e * den x)) t.exact, mul-le-mul_right (den m * down e * (den n * down f)) h))
      (mul-pos (den_pos x) (den_pos y))

  -- 2ᶠ is not at most half of 2ᵉ: of two m in the range none is twice the other
  not_halved : Halved f e → ⊥
  not_halved g =
      let double : 2 * (num m * den n) ≤ num n * den m =
      le_of_mul-le-mul_right {k = up f * down e} (omega (arith, split_order, mul-le-mul_right (num m * den n) g)) (mul-pos (up_pos f) (down_pos e)) in
      omega (arith, den_pos m, mul-le-mul_right (den n) (split_least s), mul-le-mul_right (den m) (split_under t))

  pub exponents_rise : PowerLe e f × T (le (of_int binary64 e) (of_int binary64 f))
  exponents_rise = exponents f e not_halved

  -- where both have the same exponent m ≤ n
  pub m_rises : PowerLe f e → T (le m n)
  m_rises g =
      cross→le m n (split_positive s) (split_positive t)
      (le_of_mul-le-mul_right {k = up e * down f} (omega (arith, split_order, mul-le-mul_right (num n * den m) g)) (mul-pos (up_pos e) (down_pos f)))

-- ---- the exponent before
unfoldable pub before : ℤ → ℤ
before (pos zero) = negsuc zero
before (pos (suc n)) = pos n
before (negsuc n) = negsuc (suc n)

before_doubled : (e : ℤ) → 2 * (up (before e) * down e) ≡ up e * down (before e)
unfolding before
before_doubled (pos zero) = refl
before_doubled (pos (suc n)) = rw pow-succ' (omega arith)
before_doubled (negsuc n) = let e = pow-suc 2 (suc n) in omega arith

-- 2·2ᵉ ≤ 2ᶠ and 2·(2ᶠ/2) ≤ 2ᵉ cannot both be
pub not_twice : (e f : ℤ) → Halved e f → Halved (before f) e → ⊥
not_twice e f h g =
    let k : up f * down e ≤ up e * down f =
    le_of_mul-le-mul_right {k = down (before f)} (omega (arith, mul-le-mul_right (down f) g, ap (λ (z : ℕ). z * down e) (before_doubled f))) (down_pos (before f)) in
    omega (arith, mul-pos (up_pos e) (down_pos f))

pub no_room : (e f g : ℤ) → Halved e f → Halved f g → up g * down e ≤ 2 * (up e * down g) → ⊥
no_room e f g h k n =
    let a : 4 * (up e * down g) ≤ up g * down e =
    le_of_mul-le-mul_right {k = up f * down f} (omega (arith, mul-le-mul h k)) (mul-pos (up_pos f) (down_pos f)) in
    omega (arith, mul-pos (up_pos e) (down_pos g))
