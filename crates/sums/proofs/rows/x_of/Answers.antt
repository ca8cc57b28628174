-- `x_of` meets its contract, by the three kinds. Assumes nothing.
use mathlib.Core.Path.{◌∙◌}
use Rattle.arithmetic.proofs.Literals.{lit_1}
use Rattle.sums.specs.Rows.{x_at}
use Rattle.sums.proofs.rows.x_of.Goals as goal

pub returns-in-Plain : goal.returns-in-Plain
unfolding x_at
returns-in-Plain c = rw c.in-Plain.is lit_1

pub returns-in-Damped : goal.returns-in-Damped
unfolding x_at
returns-in-Damped c = rw c.in-Damped.is c.damped_x.ensures

pub returns-in-Bell : goal.returns-in-Bell
unfolding x_at
returns-in-Bell c = rw c.in-Bell.is (c.exp.ensures ∙ c.bell_exponent.ensures)
