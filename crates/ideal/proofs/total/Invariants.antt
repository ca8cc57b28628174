-- `total` meets its contract. The loop's invariant: s is the sum over the pairs so far. Assumes nothing.
use mathlib.Core.Path.{◌≡◌}
use Rattle.arithmetic.specs.Checked.{squash}
use lib.Ieee.{Float}
use Rattle.fluids.specs.declared.Pair.{Pair}
use Rattle.fluids.specs.Entries.{entry_of}
use Rattle.ideal.specs.Ideal.{Gives, total_to}
use Rattle.ideal.proofs.total.Given as goal

abbrev pub invariant-loop-i : goal.invariant-loop-i
invariant-loop-i g l =
    (added : Pair → Float) → Gives (goal.F-post g l.part) added → squash l.s ≡ total_to added (entry_of l.fn.fluid).pairs l.i
