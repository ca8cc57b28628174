-- `power_exponents` meets its contract. The loop's invariant: the exponentials of the first i places are filled. Assumes nothing.
use mathlib.Core.List.{map}
use Rattle.exponentials.specs.Exp.{exp_of}
use Rattle.kept.specs.Kept.{power_at}
use Rattle.kept.proofs.Filled.{Filled}
use Rattle.kept.proofs.power_exponents.Given as goal

abbrev pub invariant-loop-i : goal.invariant-loop-i
invariant-loop-i l = Filled (map (power_at l.y) l.terms) l.i (map exp_of l.exponents)
