-- `of_fluid` meets its contract, by what the second letter names. Assumes nothing.
use mathlib.Core.Path.{refl, sym}
use Rattle.std.proofs.lemmas.Result.{err_from_is_err_and}
use Rattle.records.specs.Record.{of_fluid}
use Rattle.records.proofs.reader.of_fluid.Goals as goal

pub returns-in_err-kind : goal.returns-in_err-kind
unfolding of_fluid
returns-in_err-kind c =
    let p = err_from_is_err_and c.from_residual.result c.from_residual.ensures.1 in rw (p.1, p.2, sym c.from.ensures, sym c.in_err-kind.ensures) refl

pub returns : goal.returns
unfolding of_fluid
returns c = rw (c.numbers.ensures, sym c.from.ensures, sym c.in_ok-kind.ensures) refl
