-- `phase_at` meets its contract: each number is that of the one state. Assumes nothing.
use Rattle.coexistence.specs.Phase.{phase_of}
use Rattle.coexistence.proofs.phase.phase_at.Goals as goal

pub returns : goal.returns
unfolding phase_of
returns c =
    simp (c.pressure_of-pressure.ensures, c.gibbs_over_rt-value.ensures, c.q_of-q.ensures, c.state_at-state.ensures)
