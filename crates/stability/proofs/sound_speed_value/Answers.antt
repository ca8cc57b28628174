-- `sound_speed_value` meets its contract: squash goes through each operation, and the divisor that is worked is tested. Assumes nothing.
use mathlib.Core.Path.{sym, ◌∙◌}
use Rattle.arithmetic.proofs.Operations.{operations}
use Rattle.roots.proofs.Ranges.{root_squash}
use Rattle.stability.specs.Stability.{sound_speed_from}
use Rattle.stability.proofs.sound_speed_value.Goals as goal

pub returns : goal.returns
unfolding sound_speed_from
returns c =
    c.root.ensures ∙ sym (root_squash _) ∙ simp (operations, c.over.ensures, c.single_numbers-gas.ensures)
