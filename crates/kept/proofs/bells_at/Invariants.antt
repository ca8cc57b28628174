-- `bells_at` meets its contract. The loop's invariant: the first i places are filled. Assumes nothing.
use mathlib.Core.List.{map}
use Rattle.arithmetic.specs.Checked.{squash}
use Rattle.kept.specs.Kept.{bell_at}
use Rattle.kept.proofs.Filled.{Filled}
use Rattle.kept.proofs.bells_at.Given as goal

abbrev pub invariant-loop-i : goal.invariant-loop-i
invariant-loop-i l = Filled (map (bell_at (squash l.tau)) l.terms) l.i l.bells
