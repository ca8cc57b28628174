-- The density of the step k is k / 2³⁰ exactly: k below 2⁵³ is a binary64, and the product with 2⁻³⁰ needs no rounding.
use mathlib.Core.Path.{◌≡◌, refl, sym, ap, ◌∙◌, subst}
use Prim.Native.Nat.{ℕ, zero, suc, ◌*◌, ◌^◌, ◌≤◌, ◌<◌}
use native.Mathlib.Nat.{lt_of_lt_of_le, mul_assoc, mul-one}
use native.Mathlib.Omega.{arith}
use mathlib.Core.Bool.{false}
use lib.Dec.{lit<, lit≤}
use lib.Pow.{shl_lt}
use lib.Ieee.{Float, binary64, mul, of_int, round}
use Rattle.fluids.specs.Entry.{most_cells}
use lib.Ieee.Exact.{HasValue, round_exact}
use lib.Ieee.Positive.{mul_at, positive_of_value}
use Rattle.arithmetic.specs.Checked.{real, two⁻}
use Rattle.search.specs.Plain.{end_step}
use Rattle.steps.specs.Steps.{step_density_of}

whole_exact : (k : ℕ) → k < 2 ^ 53 → HasValue (real k) false k 1
unfolding of_int
whole_exact k h = round_exact binary64 false k 1 k 1074 (lit< tt) h (lt_of_lt_of_le (shl_lt 53 1074 h) (lit≤ tt)) (sym (mul-one (k * 2 ^ 1074)))

exact : (k : ℕ) → k < 2 ^ 53 → HasValue (step_density_of k) false k (2 ^ 30)
unfolding step_density_of mul of_int round
exact zero h = (refl, refl)
exact (suc n) h =
    let k = suc n in
    let v : HasValue (real k) false k 1 = whole_exact k h in
    subst (λ (x : Float). HasValue x false k (2 ^ 30))
    (sym
    (mul_at binary64 (real k) (two⁻ 30) k 1 1 (2 ^ 30) (positive_of_value (real k) k 1 v (omega arith)) tt (lit< tt) (lit< tt) v (refl, refl)
    ∙ ap (λ (z : ℕ). round binary64 false z (2 ^ 30)) (mul-one k)))
    (round_exact binary64 false k (2 ^ 30) k 1044 (lit< tt) h (lt_of_lt_of_le (shl_lt 53 1044 h) (lit≤ tt)) (sym (mul_assoc k (2 ^ 1044) (2 ^ 30))))

pub step_exact : (k : ℕ) → k ≤ end_step most_cells → HasValue (step_density_of k) false k (2 ^ 30)
step_exact k h = exact k (omega arith)

-- step 0 is density +0
pub step_zero : step_density_of 0 ≡ real 0
unfolding step_density_of mul of_int round
step_zero = refl
