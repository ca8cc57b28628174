-- One turn of the steps of exp, and of its squares, as the code counts: from n to n - 1.
use mathlib.Core.Path.{◌≡◌}
use Prim.Native.Nat.{ℕ, zero, suc, ◌-◌, ◌<◌}
use native.Mathlib.Nat.{not-suc-le-zero}
use native.Mathlib.Numerals.{sub-one}
use lib.Ieee.{Float}
use Rattle.arithmetic.specs.Checked.{real, ◌⊕◌, ◌⊗◌, ◌⊘◌}
use Rattle.arithmetic.proofs.Forced.{forced}
use Rattle.exponentials.specs.Exp.{exp_steps, squared}

pub exp_turn : (y H : Float) (n : ℕ) → 0 < n → exp_steps y n H ≡ exp_steps y (n - 1) (real 1 ⊕ (y ⊗ H) ⊘ real n)
unfolding exp_steps
exp_turn y H zero p = absurd (not-suc-le-zero p)
exp_turn y H (suc n) p = simp (sub-one, forced)

pub squared_turn : (H : Float) (k : ℕ) → 0 < k → squared k H ≡ squared (k - 1) (H ⊗ H)
unfolding squared
squared_turn H zero p = absurd (not-suc-le-zero p)
squared_turn H (suc k) p = simp (sub-one, forced)
