-- `summed` meets its contract. The loop's invariant: the sums are those over the first i rows. Assumes nothing.
use mathlib.Core.Path.{◌≡◌, sym, ◌∙◌, ap}
use native.Mathlib.Omega.{arith}
use Rattle.arithmetic.proofs.Literals.{lit_0, squash_0}
use Rattle.arithmetic.specs.Checked.{squash}
use Rattle.fluids.proofs.Sound.{sound}
use Rattle.sums.specs.Sums.{sums_to, sums_at}
use Rattle.sums.specs.Factors.{x_of_row}
use Rattle.sums.proofs.Turn.{this_row, sums_turn}
use Rattle.sums.proofs.summed.Goals as goal

pub loop-i-init : goal.loop-i-init
unfolding sums_to
loop-i-init c = simp (lit_0, squash_0)

pub loop-i-preserved : goal.loop-i-preserved
unfolding x_of_row
loop-i-preserved c =
    let row = this_row _ (squash c.args.kept.tau) _ c.args.kept.powers c.args.kept.bells c.loop-i.i _ (c.xs_at-xs.ensures c.loop-i.i c.loop-i-test.true) in
    c.added-s.ensures ∙ sums_turn _ _ _ _ _ _ _ _ c.loop-i.invariant (rw (c.terms-terms.ensures, row) at c.row_of.ensures)

pub returns : goal.returns
unfolding sums_at
returns c =
    let z : c.loop-i.i ≡ 14 = omega arith in
    c.loop-i.invariant ∙ ap (sums_to _ _ _ _ _) (z ∙ sym (sound _).fourteen)
