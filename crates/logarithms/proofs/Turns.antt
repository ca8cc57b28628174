-- One turn of ln's steps, as the code counts: from k to k - 1, by the definition's own clauses.
use mathlib.Core.Path.{◌≡◌}
use Prim.Native.Nat.{ℕ, zero, suc, ◌-◌, ◌<◌, ◌*◌, ◌+◌}
use native.Mathlib.Nat.{not-suc-le-zero}
use native.Mathlib.Numerals.{sub-one}
use lib.Ieee.{Float}
use Rattle.arithmetic.specs.Checked.{real, ◌⊕◌, ◌⊗◌, ◌⊘◌}
use Rattle.logarithms.specs.Ln.{ln_steps}
use Rattle.arithmetic.proofs.Forced.{forced}

pub ln_turn : (s H : Float) (k : ℕ) → 0 < k → ln_steps s k H ≡ ln_steps s (k - 1) (real 1 ⊘ real (2 * (k - 1) + 1) ⊕ s ⊗ H)
unfolding ln_steps
ln_turn s H zero p = absurd (not-suc-le-zero p)
ln_turn s H (suc k) p = simp (sub-one, forced)
