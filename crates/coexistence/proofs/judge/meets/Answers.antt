-- `meets` meets its contract: Q at both, and then the differences. Assumes nothing.
use Rattle.refusals.proofs.Tests.{then_second, not_first}
use Rattle.coexistence.specs.Judge.{meets}
use Rattle.coexistence.proofs.judge.meets.Goals as goal

pub returns-then-both_stable : goal.returns-then-both_stable
unfolding meets
returns-then-both_stable c = then_second _ c.both_stable.ensures c.if-both_stable.true c.both_near.ensures

pub returns-else-both_stable : goal.returns-else-both_stable
unfolding meets
returns-else-both_stable c = not_first _ c.both_stable.ensures c.if-both_stable.false
