-- `all_finished` meets its contract: each place is worked by itself. Assumes nothing.
use mathlib.Core.Path.{◌≡◌}
use Rattle.arithmetic.specs.Checked.{squash}
use Rattle.exponentials.specs.Exp.{squared}
use Rattle.arithmetic.specs.Lanes.{lane}
use Rattle.arithmetic.proofs.Places.{Worked}
use Rattle.exponentials.proofs.lanes.all_finished.Given as goal

abbrev pub invariant-loop-v : goal.invariant-loop-v
invariant-loop-v g l = Worked g.row.N (λ k v. v ≡ squared 10 (squash (lane l.fn.h k))) (λ k v. v ≡ lane l.fn.h k) l.v-index l.v-items
