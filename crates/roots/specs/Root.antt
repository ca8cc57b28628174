-- 01, "root x".
use Rattle.std.specs.Prelude.{ℕ, zero, suc, ◌^◌, Float}
use Rattle.arithmetic.specs.Checked.{real, within, ◌▷◌, ◌⊕◌, ◌⊘◌}

-- n times y = (y + x/y)/2
unfoldable pub root_steps : ℕ → Float → Float → Float
root_steps zero x y = y
root_steps (suc n) x y = (y ⊕ x ⊘ y) ⊘ real 2 ▷ root_steps n x

-- root x, 1 ≤ x ≤ 10⁸: y = 256, then sixteen times
unfoldable pub root_of : Float → Float
root_of x = within (real 1) (real (10 ^ 8)) x (root_steps 16 x (real 256))
