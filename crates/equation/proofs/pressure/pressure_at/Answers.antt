-- `pressure_at` meets its contract: the gas constant is the entry's, and S1 that of δ by the entry's critical density. Assumes nothing.
use mathlib.Core.Path.{◌∙◌}
use Rattle.equation.specs.State.{pressure_at, pressure_value, state_of}
use Rattle.equation.proofs.Entry.{sums_by_entry}
use Rattle.equation.proofs.pressure.pressure_at.Goals as goal

pub returns : goal.returns
unfolding pressure_at pressure_value state_of
returns c =
    let constants = c.single_numbers-critical_density.ensures in
    let sums = c.sums_at-s.ensures ∙ sums_by_entry c.args.kept c.args.rho _ constants in
    c.pressure_by.ensures ∙ simp (sums, constants)
