-- `found_density` meets its contract, by the two forms of what was found. Assumes nothing.
use Rattle.bench.proofs.Nan.{density_or}
use Rattle.bench.proofs.found_density.Goals as goal

pub returns : goal.returns
returns c = rw (c.number_or_nan.ensures, c.found_answer.ensures) (density_or c.args.found)
