-- `worked_density` meets its contract: its test is that of the definition. Assumes nothing.
use Rattle.arithmetic.proofs.Literals.{lit_0}
use Rattle.properties.specs.Calls.{worked_density}
use Rattle.properties.proofs.calls.worked_density.Goals as goal

pub returns-then-rho : goal.returns-then-rho
unfolding worked_density
returns-then-rho c = simp (lit_0, simp lit_0 at c.if-rho.true)

pub returns-else-rho : goal.returns-else-rho
unfolding worked_density
returns-else-rho c = simp (simp lit_0 at c.if-rho.false)
