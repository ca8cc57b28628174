-- `fitted_lines` meets its contract: the first k records' lines are printed.
use Rattle.lines.proofs.Printed.{Printed}
use Rattle.lines.proofs.fitted_lines.Given as goal

abbrev pub invariant-loop-k : goal.invariant-loop-k
invariant-loop-k l = Printed l.first l.input l.initial.out l.out l.k l.at
