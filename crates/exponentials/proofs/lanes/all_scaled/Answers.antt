-- `all_scaled` meets its contract: each place is worked by itself. Assumes nothing.
use mathlib.Core.Path.{◌∙◌, ap}
use native.Mathlib.Omega.{arith}
use Rattle.exponentials.specs.Exp.{scaled_of}
use Rattle.arithmetic.proofs.Places.{one_worked}
use Rattle.exponentials.proofs.lanes.all_scaled.Goals as goal

pub loop-v-preserved : goal.loop-v-preserved
loop-v-preserved g c =
    one_worked _ _ _ _ _ _ c.loop-v.invariant c.loop-v-test.true (c.scaled.ensures ∙ ap scaled_of (c.loop-v.invariant.left _ (omega arith) c.loop-v-test.true))
