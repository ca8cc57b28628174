-- `all_steps` meets its contract. The outer loop's invariant: at each place the steps that are left, from the present H, end
-- where all sixteen do from 1; the inner one's: behind the present place they are one step further. Assumes nothing.
use mathlib.Core.Path.{◌≡◌}
use mathlib.Core.List.{List}
use Prim.Native.Nat.{ℕ, ◌-◌}
use lib.ListN.{length}
use lib.Ieee.{Float}
use Rattle.arithmetic.specs.Checked.{squash, real}
use Rattle.exponentials.specs.Exp.{exp_steps}
use Rattle.arithmetic.specs.Lanes.{AtEach, lane}
use Rattle.arithmetic.proofs.Places.{Worked}
use Rattle.exponentials.proofs.lanes.all_steps.Given as goal

-- from v, the n steps that are left end where all sixteen do
abbrev pub Left : List Float → ℕ → ℕ → Float → Type 0
Left y n k v = exp_steps (squash (lane y k)) n (squash v) ≡ exp_steps (squash (lane y k)) 16 (real 1)

abbrev pub invariant-loop-i : goal.invariant-loop-i
invariant-loop-i g l = Worked g.row.N (Left l.y (l.n - 1)) (Left l.y l.n) l.i l.h

abbrev pub invariant-loop-n : goal.invariant-loop-n
invariant-loop-n g l = record {
  size : length l.h ≡ g.row.N;
  left : AtEach g.row.N (λ k. Left l.y l.n k (lane l.h k));
}
