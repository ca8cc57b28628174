-- `found_bits` meets its contract, by the two forms of what was found. Assumes nothing.
use mathlib.Core.Path.{◌∙◌, sym, ap}
use Rattle.outcomes.specs.Parts.{found_bits_of}
use Rattle.outcomes.proofs.found_bits.Goals as goal

pub returns-in-Ok : goal.returns-in-Ok
returns-in-Ok c = c.bits.ensures ∙ sym (ap found_bits_of c.in-Ok.is)
