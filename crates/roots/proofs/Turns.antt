-- One turn of root's steps, as the code counts: from n to n - 1, by the definition's own clauses.
use mathlib.Core.Path.{◌≡◌}
use Prim.Native.Nat.{ℕ, zero, suc, ◌-◌, ◌<◌}
use native.Mathlib.Nat.{not-suc-le-zero}
use native.Mathlib.Numerals.{sub-one}
use lib.Ieee.{Float}
use Rattle.arithmetic.specs.Checked.{real, ◌⊕◌, ◌⊘◌}
use Rattle.roots.specs.Root.{root_steps}
use Rattle.arithmetic.proofs.Forced.{forced}

pub root_turn : (x y : Float) (n : ℕ) → 0 < n → root_steps n x y ≡ root_steps (n - 1) x ((y ⊕ x ⊘ y) ⊘ real 2)
unfolding root_steps
root_turn x y zero p = absurd (not-suc-le-zero p)
root_turn x y (suc n) p = simp (sub-one, forced)
