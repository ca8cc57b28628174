-- `stable` meets its contract: its tests are those of the definition, one after the other. Assumes nothing.
use Rattle.arithmetic.proofs.Literals.{lit_0}
use Rattle.properties.proofs.calls.stable.Goals as goal

pub returns-then-not-q : goal.returns-then-not-q
returns-then-not-q c = simp (lit_0, simp lit_0 at c.if-not-q.true)

pub returns-else-not-q : goal.returns-else-not-q
returns-else-not-q c = simp (lit_0, simp lit_0 at c.if-not-q.false)
