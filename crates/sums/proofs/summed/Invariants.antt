-- `summed` meets its contract. The loop's invariant: the sums are those over the first i rows. Assumes nothing.
use mathlib.Core.Path.{◌≡◌}
use mathlib.Core.List.{map}
use Rattle.arithmetic.specs.Checked.{squash}
use Rattle.fluids.specs.Entries.{entry_of}
use Rattle.sums.specs.Sums.{sums_to}
use Rattle.sums.specs.Squashed.{squash_sums}
use Rattle.sums.proofs.summed.Given as goal

abbrev pub invariant-loop-i : goal.invariant-loop-i
invariant-loop-i l =
    squash_sums l.s
    ≡ sums_to (squash l.delta) (squash l.tau) (entry_of l.fn.kept.fluid).rows (map squash l.powers) (map squash l.fn.kept.bells) l.i
