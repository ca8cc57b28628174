-- `all_steps` meets its contract. The outer loop's invariant: at each place the steps that are left, from the present H, end
-- where all sixteen do from 1; the inner one's: behind the present place they are one step further. Assumes nothing.
use mathlib.Core.Path.{◌≡◌, sym, ◌∙◌, ap}
use Prim.Native.Nat.{ℕ, ◌-◌}
use native.Mathlib.Omega.{arith}
use lib.ListN.{get_or-replicate, length-replicate}
use lib.Ieee.{Float, nan}
use Rattle.arithmetic.specs.Checked.{squash, real}
use Rattle.exponentials.specs.Exp.{exp_steps}
use Rattle.arithmetic.specs.Lanes.{lane}
use Rattle.arithmetic.proofs.Literals.{lit_1, squash_1}
use Rattle.exponentials.proofs.ExpTurn.{exp_turn}
use Rattle.arithmetic.proofs.Places.{one_worked}
use Rattle.exponentials.proofs.lanes.all_steps.Goals as goal

pub loop-n-init : goal.loop-n-init
loop-n-init g c = record {
  size = length-replicate g.row.N _;
  left = λ k p.
      ap (exp_steps (squash (lane c.args.y k)) _) (ap squash (get_or-replicate g.row.N k _ nan p ∙ lit_1) ∙ squash_1)
      ∙ ap (λ (n : ℕ). exp_steps (squash (lane c.args.y k)) n (real 1)) (omega arith);
}

pub loop-i-preserved : goal.loop-i-preserved
loop-i-preserved g c =
    let y = squash (lane c.args.y c.loop-i.i) in
    let h = squash (lane c.loop-i.h c.loop-i.i) in
    one_worked _ _ _ _ c.loop-i.i _ c.loop-i.invariant c.loop-i-test.true
    (ap (exp_steps y (c.loop-n.n - 1)) c.step.ensures
    ∙ sym (exp_turn y h c.loop-n.n c.loop-n-test.true)
    ∙ c.loop-i.invariant.left c.loop-i.i (omega arith) c.loop-i-test.true)

pub returns : goal.returns
unfolding exp_steps
returns g c = λ k p.
    let none : c.loop-n.n ≡ 0 = omega arith in
    rw none at (c.loop-n.invariant.left k p)
