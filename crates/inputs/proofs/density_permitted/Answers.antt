-- `density_permitted` meets its contract: its test is that of the range. Assumes nothing.
use mathlib.Core.Path.{sym}
use Rattle.fluids.specs.Entries.{entry_of}
use Rattle.fluids.proofs.Limits.{in_density}
use Rattle.inputs.proofs.density_permitted.Goals as goal

pub returns : goal.returns
returns c = sym (in_density (entry_of c.args.fluid) _ _ _ c.single_numbers-numbers.ensures c.between.ensures)
