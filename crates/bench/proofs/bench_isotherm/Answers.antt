-- `bench_isotherm` meets its contract where no fluid has the number. Assumes nothing.
use Rattle.arithmetic.proofs.Literals.{lit_nan}
use Rattle.bench.proofs.bench_isotherm.Goals as goal

pub returns-in-Err : goal.returns-in-Err
returns-in-Err c = rw (← c.in-Err.ensures) lit_nan
