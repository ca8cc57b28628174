-- `fluid_number` meets its contract: a number of more than 32 bits names no fluid, and neither does the greatest. Assumes nothing.
use Rattle.probe_calls.proofs.Numbers.{in_32_bits}
use Rattle.probe_calls.proofs.fluid_number.Goals as goal

pub returns : goal.returns
returns c = rw c.unwrap_or.ensures (in_32_bits _ _ c.try_from.ensures)
