-- The cases of 01 hold: each row by computing both its sides, whose definitions are opened once.
use mathlib.Core.Path.{refl}
use lib.Ieee.{is_nan, add, sub, mul, div, neg, of_int, round, of_bits, to_bits, le, lt, eq}
use Rattle.arithmetic.specs.Checked.{within, minus, ◌▷◌, ◌⊕◌, ◌⊖◌, ◌⊗◌, ◌⊘◌}
use Rattle.exponentials.specs.Exp.{exp_steps, squared, exp_work, exp_of}
use Rattle.logarithms.specs.Ln.{m_of, e_of, ln_steps, ln_work, ln_of}
use Rattle.roots.specs.Root.{root_steps, root_of}
use Rattle.elementary.specs.Power.{◌↑◌}
use Rattle.fluids.specs.R245ca.{r245ca}
use Rattle.fluids.specs.Entries.{entry_of}
use Rattle.kept.specs.Kept.{power_at, bell_at, kept_of}
use Rattle.sums.specs.Rows.{x_at, row_at}
use Rattle.sums.specs.Sums.{row_first, sums_first, row_of, sums_to, sums_at}
use Rattle.equation.specs.State.{state_of, pressure_value}
use Rattle.properties.specs.Calls.{worked_density, pressure_of, entropy_of}
use Rattle.inputs.specs.Inputs.{state_permit, potential_permit}
use Rattle.search.specs.Plain.{visit_up, cell_from_below, visit_down, cell_from_above}
use Rattle.search.specs.Lists.{greater_of, lesser_of, greatest, least_of_next, some_not_finite, filled, greatest_list, least_list}
use Rattle.search.specs.Quick.{halved_places, enclosing, quick_cell}
use Rattle.inputs.specs.Inputs.{search_permit, prepare_permit}
use Rattle.density.specs.Calls.{plain_of, quick_of}
use Rattle.preparation.specs.Prepare.{prepare_of}
use Rattle.cases.specs.Table.{Hold, cases}

pub cases_hold : Hold cases
unfolding
    exp_of exp_work exp_steps squared within minus ◌▷◌ ◌⊕◌ ◌⊗◌ ◌⊘◌ ln_of ln_work ln_steps m_of e_of ◌⊖◌ root_of root_steps
    pressure_of state_permit worked_density pressure_value state_of kept_of sums_at sums_to sums_first row_first row_of
    row_at x_at bell_at power_at ◌↑◌ entry_of r245ca entropy_of potential_permit plain_of search_permit quick_of prepare_of
    prepare_permit greatest_list filled some_not_finite greatest greater_of least_list least_of_next lesser_of cell_from_below
    visit_up quick_cell halved_places enclosing cell_from_above visit_down add sub mul div neg of_int round of_bits to_bits
    le lt eq is_nan
cases_hold = (refl, (refl, (refl, (refl, (refl, (refl, (refl, (refl, (refl, (refl, (refl, (refl, (refl, (refl, (refl, (refl, (refl, (refl, (refl, (refl, (refl, (refl, (refl, (refl, (refl, (refl, (refl, (refl, (refl, (refl, (refl, (refl, (refl, tt)))))))))))))))))))))))))))))))))
