-- `word_number` meets its contract, word by word. Assumes nothing.
use mathlib.Core.Path.{sym, ap}
use Rattle.outcomes.specs.Parts.{word_number_of}
use Rattle.outcomes.proofs.word_number.Goals as goal

pub returns-in-Fluid : goal.returns-in-Fluid
returns-in-Fluid c = sym (ap word_number_of c.in-Fluid.is)

pub returns-in-Vapour : goal.returns-in-Vapour
returns-in-Vapour c = sym (ap word_number_of c.in-Vapour.is)

pub returns-in-Liquid : goal.returns-in-Liquid
returns-in-Liquid c = sym (ap word_number_of c.in-Liquid.is)
