-- `both_near` meets its contract: the code's bounds are the definition's, each computed. Assumes nothing.
use mathlib.Core.Path.{◌≡◌, refl, ◌∙◌}
use mathlib.Core.Bool.{Bool}
use lib.Ieee.{Float, of_bits, neg, round}
use Rattle.refusals.proofs.Tests.{then_second, not_first}
use Rattle.arithmetic.specs.Checked.{minus, between}
use Rattle.coexistence.specs.Judge.{pressure_bound, value_bound, near}
use Rattle.coexistence.proofs.judge.both_near.Goals as goal

near_by : (bound x lo hi : Float) {r : Bool} → r ≡ between lo x hi → lo ≡ minus bound → hi ≡ bound → r ≡ near bound x
near_by bound x lo hi asked e f = asked ∙ simp (e, f)

pub returns-then-between : goal.returns-then-between
unfolding of_bits round neg minus
returns-then-between c =
    then_second _ (near_by pressure_bound c.args.pressures _ _ c.between.ensures refl refl) c.if-between.true
    (near_by value_bound c.args.values _ _ c.between-then-between.ensures refl refl)

pub returns-else-between : goal.returns-else-between
unfolding of_bits round neg minus
returns-else-between c =
    not_first _ (near_by pressure_bound c.args.pressures _ _ c.between.ensures refl refl) c.if-between.false
