-- `x_exponent` meets its contract, by the three kinds: exp 0 is 1. Assumes nothing.
use mathlib.Core.Path.{◌∙◌, ap}
use Rattle.exponentials.specs.Exp.{exp_of}
use Rattle.arithmetic.proofs.Literals.{lit_0}
use Rattle.exponentials.proofs.ExpWorked.{exp_0}
use Rattle.sums.specs.Rows.{x_at}
use Rattle.sums.proofs.rows.x_exponent.Goals as goal

pub returns-in-Plain : goal.returns-in-Plain
unfolding x_at
returns-in-Plain c = rw c.in-Plain.is (ap exp_of lit_0 ∙ exp_0)

pub returns-in-Damped : goal.returns-in-Damped
unfolding x_at
returns-in-Damped c = rw c.in-Damped.is c.damped_exponent.ensures

pub returns-in-Bell : goal.returns-in-Bell
unfolding x_at
returns-in-Bell c = rw c.in-Bell.is c.bell_exponent.ensures
