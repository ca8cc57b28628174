-- What the computed tests of an entry open: to unfold `entry_opened` is to unfold all that its line names.
use Rattle.fluids.specs.R245ca.{r245ca}
use Rattle.fluids.specs.R245fa.{r245fa}
use Rattle.intervals.proofs.Opened.{opened}
use Rattle.ranges.proofs.Rows.{square_by, square, power_at_over, bell_at_over, x_at_over, row_at_over, row_computed, sums_computed, add_row_over, term_over, sums_to_over, sums_over, s1_to_over, s1_over}
use Rattle.ranges.proofs.State.{part0_over, part1_over, part2_over, total_to_over, I0Over, I1Over, I2Over, finished, state_over}
use Rattle.ranges.proofs.Top.{pressure_over}
use Rattle.ranges.proofs.Estimates.{estimate_over, estimate_at_over, plus_over, estimates_over, estimates_known}

unfoldable pub entry_opened : Unit {0}
unfolding
    opened r245ca r245fa square_by square power_at_over bell_at_over x_at_over row_at_over row_computed sums_computed add_row_over
    term_over sums_to_over sums_over s1_to_over s1_over part0_over part1_over part2_over total_to_over I0Over I1Over I2Over
    finished state_over pressure_over estimate_over estimate_at_over plus_over estimates_over estimates_known
entry_opened = tt
