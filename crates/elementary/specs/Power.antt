-- 01, "xᵗ with an exponent t is exp(t·ln x); 0ᵗ is 0. δᵈ and δˡ are repeated products from 1".
use Rattle.std.specs.Prelude.{cond, ℕ, zero, suc, Float}
use Rattle.std.specs.Float.Ieee.{eq}
use Rattle.arithmetic.specs.Checked.{real, ◌⊗◌}
use Rattle.exponentials.specs.Exp.{exp_of}
use Rattle.logarithms.specs.Ln.{ln_of}

infixl 75 ◌↑◌
unfoldable pub power_of : Float → Float → Float
power_of x t = cond (eq x (real 0)) (real 0) (exp_of (t ⊗ ln_of x))

unfoldable pub ◌↑◌ : Float → ℕ → Float
x ↑ zero = real 1
x ↑ suc n = x ↑ n ⊗ x
