-- `bell_exponent` meets its contract: squash goes through each operation, and neither an operation nor exp sees it. Assumes nothing.
use mathlib.Core.Path.{◌≡◌, ◌∙◌, sym}
use lib.Ieee.{Float}
use Rattle.arithmetic.specs.Checked.{squash, minus}
use Rattle.arithmetic.proofs.Operations.{operations, squash_neg}
use Rattle.exponentials.proofs.ExpRange.{exp_squash}
use Rattle.sums.proofs.rows.bell_exponent.Goals as goal

minus_squash : (a : Float) → minus (squash a) ≡ minus a
unfolding minus
minus_squash a = sym (squash_neg a)

pub returns : goal.returns
returns c = sym (exp_squash _) ∙ simp (operations, minus_squash)
