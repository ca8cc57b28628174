-- `vapour_step` meets its contract: squash goes through each operation, and the divisor, which is worked, is tested. Assumes nothing.
use mathlib.Core.Path.{◌≡◌, ◌∙◌, ap}
use lib.Ieee.{Float, binary64, of_bits, sub, div}
use Rattle.arithmetic.specs.Checked.{real, squash, ◌⊖◌, ◌⊘◌}
use Rattle.arithmetic.proofs.Operations.{squash_sub, squash_over, ⊖_right, ⊘_left}
use Rattle.arithmetic.proofs.Literals.{lit_1, squash_1}
use Rattle.coexistence.specs.Round.{vapour_step}
use Rattle.coexistence.proofs.round.vapour_step.Goals as goal

-- D/l − E, and 1/l − 1/v
less : (a e l : Float) → squash (sub binary64 (div binary64 a l) e) ≡ a ⊘ l ⊖ e
less a e l = simp (squash_sub, squash_over, ⊘_left, ⊖_right)

between_reciprocals : (l v : Float) → squash (sub binary64 (div binary64 (of_bits binary64 0x3ff0000000000000) l) (div binary64 (of_bits binary64 0x3ff0000000000000) v)) ≡ real 1 ⊘ l ⊖ real 1 ⊘ v
between_reciprocals l v = simp (squash_sub, squash_over, lit_1, squash_1)

pub returns : goal.returns
unfolding vapour_step
returns c =
    c.over.ensures
    ∙ ap (λ (x : Float). x ⊘ squash (sub binary64 (div binary64 (of_bits binary64 0x3ff0000000000000) c.args.l) (div binary64 (of_bits binary64 0x3ff0000000000000) c.args.v))) (less c.args.d c.args.e c.args.l)
    ∙ ap (λ (x : Float). (c.args.d ⊘ c.args.l ⊖ c.args.e) ⊘ x) (between_reciprocals c.args.l c.args.v)
