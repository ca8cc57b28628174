-- A row of the table and its X, from the bells' parts as they are kept: what the contracts inside this crate speak of.
use Rattle.std.specs.Prelude.{◌≡◌, List, ℕ, Float}
use Rattle.arithmetic.specs.Checked.{squash, minus}
use Rattle.arithmetic.specs.Lanes.{lane}
use Rattle.fluids.specs.declared.Term.{Term}
use Rattle.fluids.specs.Entry.{term_of}
use Rattle.exponentials.specs.Exp.{exp_of}
use Rattle.elementary.specs.Power.{◌↑◌}
use Rattle.sums.specs.Rows.{x_at}

-- what the damped rows share: exp(−δ) and exp(−δ²)
abbrev pub Dampings : Float → Float → Float → Type 0
Dampings δ first second = (first ≡ exp_of (minus (δ ↑ 1))) × (second ≡ exp_of (minus (δ ↑ 2)))

unfoldable pub x_of_row : Float → List Term → List Float → ℕ → Float
x_of_row δ rows bells i = x_at δ (squash (lane bells i)) (term_of rows i)
