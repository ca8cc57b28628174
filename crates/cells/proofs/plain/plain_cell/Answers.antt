-- `plain_cell` meets its contract, by the side. Assumes nothing.
use mathlib.Core.Path.{sym, ap, ◌∙◌}
use Rattle.search.specs.Plain.{at_ends}
use Rattle.search.specs.declared.Side.{Side}
use Rattle.steps.specs.Steps.{pressure_in_steps}
use Rattle.search.specs.BySide.{plain_cell_of}
use Rattle.cells.proofs.plain.plain_cell.Goals as goal

pub returns-in-FromBelow : goal.returns-in-FromBelow
returns-in-FromBelow c =
    c.cell_from_below.ensures
    ∙ ap (λ (s : Side). plain_cell_of s (at_ends (pressure_in_steps c.args.kept)) c.args.p c.args.c) (sym c.in-FromBelow.is)

pub returns-in-FromAbove : goal.returns-in-FromAbove
returns-in-FromAbove c =
    c.cell_from_above.ensures
    ∙ ap (λ (s : Side). plain_cell_of s (at_ends (pressure_in_steps c.args.kept)) c.args.p c.args.c) (sym c.in-FromAbove.is)
