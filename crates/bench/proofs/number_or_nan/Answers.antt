-- `number_or_nan` meets its contract, by the answer's two forms. Assumes nothing.
use mathlib.Core.Path.{◌∙◌}
use Rattle.bench.proofs.Nan.{number_or}
use Rattle.bench.proofs.number_or_nan.Goals as goal

pub returns : goal.returns
returns c = c.unwrap_or.ensures ∙ number_or c.args.answer
