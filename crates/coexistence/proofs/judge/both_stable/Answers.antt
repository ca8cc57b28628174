-- `both_stable` meets its contract: its two comparisons are those of the definition. Assumes nothing.
use mathlib.Core.Path.{ap}
use lib.Ieee.{Float, lt}
use Rattle.refusals.proofs.Tests.{then_second, not_first}
use Rattle.arithmetic.proofs.Literals.{lit_0}
use Rattle.coexistence.proofs.judge.both_stable.Goals as goal

pub returns-then-liquid : goal.returns-then-liquid
returns-then-liquid c =
    then_second _ (ap (λ (z : Float). lt z c.args.liquid) lit_0) c.if-liquid.true (ap (λ (z : Float). lt z c.args.vapour) lit_0)

pub returns-else-liquid : goal.returns-else-liquid
returns-else-liquid c = not_first _ (ap (λ (z : Float). lt z c.args.liquid) lit_0) c.if-liquid.false
