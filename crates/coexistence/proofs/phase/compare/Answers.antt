-- `compare` meets its contract: each difference is one checked subtraction. Assumes nothing.
use Rattle.arithmetic.specs.Checked.{◌⊖◌}
use Rattle.coexistence.specs.Phase.{compared_by}
use Rattle.coexistence.proofs.phase.compare.Goals as goal

pub returns : goal.returns
unfolding compared_by ◌⊖◌
returns c =
    simp (c.squash-pressures.ensures, c.squash-values.ensures, c.phase_at-vapour.ensures, c.phase_at-liquid.ensures)
