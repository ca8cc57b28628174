-- `state_at` meets its contract: δ by the entry's critical density, and the sums there. Assumes nothing.
use Rattle.arithmetic.specs.Checked.{◌⊘◌}
use Rattle.equation.specs.State.{state_of}
use Rattle.equation.proofs.state.state_at.Goals as goal

pub returns : goal.returns
unfolding state_of ◌⊘◌
returns c = simp (c.sums_at.ensures, c.squash-delta.ensures, c.single_numbers.ensures)
