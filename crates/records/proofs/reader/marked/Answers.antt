-- `marked` meets its contract, by what the first letter names. Assumes nothing.
use mathlib.Core.Path.{refl, sym, ◌∙◌}
use Rattle.records.specs.Record.{marked_of}
use Rattle.records.proofs.reader.marked.Goals as goal

pub returns-in-Some : goal.returns-in-Some
unfolding marked_of
returns-in-Some c = c.of_fluid.ensures ∙ rw (sym c.fluid_lettered.ensures, c.in-Some.is) refl

pub returns-in-None : goal.returns-in-None
unfolding marked_of
returns-in-None c = rw (sym c.fluid_lettered.ensures, c.in-None.is) refl
