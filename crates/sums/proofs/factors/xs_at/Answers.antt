-- `xs_at` meets its contract: the second half is exp at its exponents, and the first two of it are the dampings that the first
-- half asks for. Assumes nothing.
use mathlib.Core.Path.{◌≡◌, ◌∙◌, ap}
use mathlib.Core.List.{List}
use native.Mathlib.Omega.{arith}
use Prim.Native.Nat.{ℕ}
use lib.Ieee.{Float}
use Rattle.arithmetic.specs.Checked.{squash, minus}
use Rattle.arithmetic.specs.Lanes.{lane}
use Rattle.elementary.specs.Power.{◌↑◌}
use Rattle.exponentials.specs.Exp.{exp_of}
use Rattle.exponentials.proofs.ExpWorked.{exps_at}
use Rattle.fluids.specs.declared.Term.{Term}
use Rattle.fluids.specs.declared.Term.TheVariants.{Plain, Damped, Bell}
use Rattle.fluids.specs.Entries.{entry_of}
use Rattle.sums.specs.Rows.{x_at}
use Rattle.sums.specs.Factors.{x_of_row}
use Rattle.exponentials.proofs.Halves.{both}
use Rattle.fluids.proofs.Sound.{DampedBy, sound}
use borrow.Author.Rules.{rules}
use Rattle.sums.proofs.factors.xs_at.Goals as goal

-- X of a row damped by δᵏ
damped_x : (δ b : Float) (k : ℕ) (term : Term) → DampedBy k term → x_at δ b term ≡ exp_of (minus (δ ↑ k))
unfolding x_at
damped_x δ b k (Plain _ _ _) h = elim h [ ]
damped_x δ b k (Damped n t d l) h = ap (λ (p : ℕ). exp_of (minus (δ ↑ p))) h
damped_x δ b k (Bell _ _ _ _ _ _ _) h = elim h [ ]

pub invariant_of-damping : goal.invariant_of-damping
unfolding x_of_row
invariant_of-damping c =
    let at = exps_at c.x_exponents.result c.exps-second.result c.exps-second.ensures in
    record {
      shared = (
        at 0 ∙ c.x_exponents.ensures 0 (omega arith) ∙ damped_x _ _ 1 _ (sound _).row_8,
        at 1 ∙ c.x_exponents.ensures 1 (omega arith) ∙ damped_x _ _ 2 _ (sound _).row_9,
      );
    }

pub returns : goal.returns
returns c = λ i p.
    ap (λ (l : List Float). lane l i) c.joined.ensures
    ∙ both c.first_xs.result c.exps-second.result (search rules) (λ k v. v ≡ x_of_row (squash c.args.delta) (entry_of c.args.fluid).rows c.args.bells k)
    c.first_xs.ensures
    (λ j q. exps_at c.x_exponents.result c.exps-second.result c.exps-second.ensures j ∙ c.x_exponents.ensures j q)
    i p
