-- `work` meets its contract: squash goes through each operation, and m+1, the one divisor that is worked, is finite.
-- Assumes nothing.
use mathlib.Core.Path.{◌≡◌, ◌∙◌}
use lib.Dec.{T}
use lib.Ieee.{Float, binary64, add, sub, div, le, lt}
use lib.Ieee.Bits.{is_true}
use Rattle.arithmetic.specs.Checked.{squash, real, ◌e-◌, ◌⊕◌, ◌⊖◌, ◌⊘◌}
use Rattle.logarithms.specs.Ln.{ln_work}
use Rattle.arithmetic.proofs.Operations.{squash_finite, ⊗_left, squash_add, squash_sub, squash_mul, squash_div}
use Rattle.arithmetic.proofs.Forced.{forced}
use Rattle.arithmetic.proofs.Literals.{lit_1, lit_2, squash_1, squash_2}
use Rattle.logarithms.proofs.Literals.{lit_ln2, squash_ln2, finite_075, finite_15}
use Rattle.arithmetic.proofs.Order.{lt→le}
use Rattle.arithmetic.proofs.Within.{between_finite}
use Rattle.logarithms.proofs.ExactSplit.{plus_one_finite}
use Rattle.logarithms.proofs.work.Goals as goal

-- z, whose divisor is finite
quotient : (m : Float) → T (le (75 e- 2) m) → T (lt m (15 e- 1)) →
    squash (div binary64 (sub binary64 m (real 1)) (add binary64 m (real 1))) ≡ (m ⊖ real 1) ⊘ (m ⊕ real 1)
quotient m a b =
    let f = squash_finite m (is_true _ (between_finite _ m _ finite_075 finite_15 a (lt→le m _ b))) in
    squash_div (sub binary64 m (real 1)) (add binary64 m (real 1)) (plus_one_finite m a b) ∙ simp (squash_sub, squash_add, squash_1, f)

pub returns : goal.returns
unfolding ln_work
returns c =
    simp (forced, squash_add, squash_mul, c.steps-h.ensures, lit_1, lit_2, lit_ln2, squash_2, squash_ln2, ⊗_left c.args.parts.e, quotient c.args.parts.m c.args.parts.inside.0 c.args.parts.inside.1)
