-- `pair_finite` meets its contract: its tests are those of the definition, one after the other. Assumes nothing.
use Rattle.refusals.proofs.Tests.{then_second, not_first}
use Rattle.inputs.proofs.pair_finite.Goals as goal

pub returns-then-finite : goal.returns-then-finite
returns-then-finite c = then_second _ c.finite.ensures c.if-finite.true c.both_finite.ensures

pub returns-else-finite : goal.returns-else-finite
returns-else-finite c = not_first _ c.finite.ensures c.if-finite.false
