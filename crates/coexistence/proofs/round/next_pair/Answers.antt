-- `next_pair` meets its contract: squash goes through each operation. Assumes nothing.
use Rattle.arithmetic.proofs.Operations.{squash_add, squash_sub, squash_over, ⊕_left, ⊖_left, ⊖_right, ⊘_left}
use Rattle.coexistence.specs.Round.{next_by}
use Rattle.coexistence.proofs.round.next_pair.Goals as goal

pub returns : goal.returns
unfolding next_by
returns c =
    simp (c.squash.ensures, c.squash-2.ensures, squash_add, squash_sub, squash_over, ⊘_left, ⊕_left, ⊖_left, ⊖_right, c.vapour_step-y.ensures, c.pressure_step-d.ensures)
