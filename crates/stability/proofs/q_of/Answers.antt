-- `q_of` meets its contract: squash goes through each operation. Assumes nothing.
use mathlib.Core.Path.{◌≡◌, ◌∙◌}
use lib.Ieee.{Float, binary64, of_bits, add, mul}
use Rattle.arithmetic.specs.Checked.{real, squash, ◌⊕◌, ◌⊗◌}
use Rattle.arithmetic.proofs.Operations.{operations}
use Rattle.arithmetic.proofs.Literals.{lit_1, lit_2}
use Rattle.stability.specs.Stability.{Q}
use Rattle.stability.proofs.q_of.Goals as goal

q_by : (S1 S2 : Float) → squash (add binary64 (add binary64 (of_bits binary64 0x3ff0000000000000) (mul binary64 (of_bits binary64 0x4000000000000000) S1)) S2) ≡ real 1 ⊕ real 2 ⊗ S1 ⊕ S2
q_by S1 S2 = simp (operations, lit_1, lit_2)

pub returns : goal.returns
unfolding Q
returns c = c.squash.ensures ∙ q_by c.args.state.sums.s1 c.args.state.sums.s2
