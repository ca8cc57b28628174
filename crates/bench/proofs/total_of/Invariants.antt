-- `total_of` meets its contract. The loop's invariant: the total is that of the densities so far. Assumes nothing.
use mathlib.Core.Path.{◌≡◌}
use Rattle.equation.specs.State.{pressure_at}
use Rattle.bench.specs.Doors.{total_to}
use Rattle.bench.proofs.total_of.Given as goal

abbrev pub invariant-loop-rho : goal.invariant-loop-rho
invariant-loop-rho l = l.total ≡ total_to (pressure_at l.kept) l.densities l.rho-index
