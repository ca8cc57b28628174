-- `state_word` meets its contract, by its two tests. Assumes nothing.
use mathlib.Core.Path.{refl}
use mathlib.Core.Bool.{true, false}
use Rattle.density.proofs.Outcomes.{word_by_tests}
use Rattle.density.proofs.state.state_word.Goals as goal

pub returns-then-t-critical : goal.returns-then-t-critical
returns-then-t-critical c =
    word_by_tests c.args.fluid c.args.t c.args.density _ true _ c.single_numbers-numbers.ensures c.if-t-critical.true refl

pub returns-then-density-critical_density : goal.returns-then-density-critical_density
returns-then-density-critical_density c =
    word_by_tests c.args.fluid c.args.t c.args.density _ false true c.single_numbers-numbers.ensures c.if-t-critical.false c.if-density-critical_density.true

pub returns-else-density-critical_density : goal.returns-else-density-critical_density
returns-else-density-critical_density c =
    word_by_tests c.args.fluid c.args.t c.args.density _ false false c.single_numbers-numbers.ensures c.if-t-critical.false c.if-density-critical_density.false
