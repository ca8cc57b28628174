-- `in_turn` meets its contract: above 0, and then as the other two comparisons have it. Assumes nothing.
use mathlib.Core.Path.{ap}
use lib.Ieee.{Float, lt}
use Rattle.refusals.proofs.Tests.{then_second, not_first}
use Rattle.arithmetic.proofs.Literals.{lit_0}
use Rattle.coexistence.proofs.judge.in_turn.Goals as goal

pub returns-then-pair : goal.returns-then-pair
returns-then-pair c =
    then_second _ (ap (λ (z : Float). lt z c.args.pair.vapour) lit_0) c.if-pair.true c.across.ensures

pub returns-else-pair : goal.returns-else-pair
returns-else-pair c = not_first _ (ap (λ (z : Float). lt z c.args.pair.vapour) lit_0) c.if-pair.false
