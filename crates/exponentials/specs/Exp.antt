-- 01, "exp x".
use Rattle.std.specs.Prelude.{ℕ, zero, suc, Float}
use Rattle.arithmetic.specs.Checked.{squash, real, two⁻, within, minus, ◌▷◌, ◌⊕◌, ◌⊗◌, ◌⊘◌}

-- for n down to 1, H = 1 + (y·H)/n
unfoldable pub exp_steps : Float → ℕ → Float → Float
exp_steps y zero H = H
exp_steps y (suc n) H = real 1 ⊕ (y ⊗ H) ⊘ real (suc n) ▷ exp_steps y n

-- square H k times
unfoldable pub squared : ℕ → Float → Float
squared zero H = H
squared (suc k) H = H ⊗ H ▷ squared k

-- x·2⁻¹⁰ where exp is worked, and `nan` elsewhere
abbrev pub scaled_of : Float → Float
scaled_of x = squash (within (minus (real 700)) (real 700) x x) ⊗ two⁻ 10

-- y = x·2⁻¹⁰; H = 1, then the steps for n = 16 down to 1; square H ten times
unfoldable pub exp_work : Float → Float
exp_work x = x ⊗ two⁻ 10 ▷ λ y. exp_steps y 16 (real 1) ▷ squared 10

-- exp x, −700 ≤ x ≤ 700
unfoldable pub exp_of : Float → Float
exp_of x = within (minus (real 700)) (real 700) x (exp_work x)
