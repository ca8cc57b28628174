-- The distance of the two ends is the measure of `halve`.
use Rattle.std.proofs.Common.{◌-◌}
use Rattle.cells.proofs.in_cell.+halve.Given as goal

abbrev pub decreases-halve : goal.decreases-halve
decreases-halve l = l.upper - l.lower
