-- `pair_permitted` meets its contract: the test of the one density, and then that of the other. Assumes nothing.
use Rattle.refusals.proofs.Tests.{then_second, not_first}
use Rattle.inputs.proofs.pair_permitted.Goals as goal

pub returns-then-density_permitted : goal.returns-then-density_permitted
returns-then-density_permitted c = then_second _ c.density_permitted.ensures c.if-density_permitted.true c.density_permitted-then-density_permitted.ensures

pub returns-else-density_permitted : goal.returns-else-density_permitted
returns-else-density_permitted c = not_first _ c.density_permitted.ensures c.if-density_permitted.false
