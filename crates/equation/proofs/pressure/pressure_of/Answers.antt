-- `pressure_of` meets its contract: the gas constant is the entry's. Assumes nothing.
use mathlib.Core.Path.{◌∙◌}
use Rattle.equation.specs.State.{pressure_value}
use Rattle.equation.proofs.pressure.pressure_of.Goals as goal

pub returns : goal.returns
unfolding pressure_value
returns c = c.pressure_by.ensures ∙ simp c.single_numbers-gas.ensures
