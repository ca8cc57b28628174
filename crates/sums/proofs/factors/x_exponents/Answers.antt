-- `x_exponents` meets its contract, row by row. Assumes nothing.
use native.Mathlib.Omega.{arith}
use Rattle.arithmetic.proofs.Places.{one_worked, all_worked}
use Rattle.sums.specs.Factors.{x_of_row}
use Rattle.sums.proofs.factors.x_exponents.Goals as goal

pub loop-j-preserved : goal.loop-j-preserved
unfolding x_of_row
loop-j-preserved c =
    one_worked _ _ _ _ c.loop-j.j _ c.loop-j.invariant c.loop-j-test.true (rw c.terms-terms.ensures at c.x_exponent.ensures)

pub returns : goal.returns
returns c = all_worked _ _ _ _ _ c.loop-j.invariant (omega arith)
