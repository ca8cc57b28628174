-- `ordered` meets its contract: the critical temperature and density are the entry's. Assumes nothing.
use mathlib.Core.Path.{ap, ◌∙◌}
use mathlib.Core.Bool.{◌&&◌}
use lib.Ieee.{lt}
use Rattle.refusals.proofs.Tests.{then_second, not_first}
use Rattle.arithmetic.specs.Checked.{real}
use Rattle.fluids.specs.declared.Constants.{Constants}
use Rattle.coexistence.specs.Judge.{ordered}
use Rattle.coexistence.proofs.judge.ordered.Goals as goal

pub returns-then-t-numbers : goal.returns-then-t-numbers
unfolding ordered
returns-then-t-numbers c =
    then_second _ (ap (λ (k : Constants). lt c.args.t k.critical_temperature) c.single_numbers-numbers.ensures) c.if-t-numbers.true
    (c.in_turn.ensures
    ∙ ap (λ (k : Constants). lt (real 0) c.args.pair.vapour && (lt c.args.pair.vapour k.critical_density && lt k.critical_density c.args.pair.liquid)) c.single_numbers-numbers.ensures)

pub returns-else-t-numbers : goal.returns-else-t-numbers
unfolding ordered
returns-else-t-numbers c =
    not_first _ (ap (λ (k : Constants). lt c.args.t k.critical_temperature) c.single_numbers-numbers.ensures) c.if-t-numbers.false
