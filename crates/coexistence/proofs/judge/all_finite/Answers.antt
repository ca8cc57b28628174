-- `all_finite` meets its contract: both phases, and then the differences. Assumes nothing.
use Rattle.refusals.proofs.Tests.{then_second, not_first}
use Rattle.coexistence.specs.Judge.{all_finite}
use Rattle.coexistence.proofs.judge.all_finite.Goals as goal

pub returns-then-phases_finite : goal.returns-then-phases_finite
unfolding all_finite
returns-then-phases_finite c = then_second _ c.phases_finite.ensures c.if-phases_finite.true c.both_finite.ensures

pub returns-else-phases_finite : goal.returns-else-phases_finite
unfolding all_finite
returns-else-phases_finite c = not_first _ c.phases_finite.ensures c.if-phases_finite.false
