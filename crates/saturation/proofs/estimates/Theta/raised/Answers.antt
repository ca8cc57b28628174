-- `raised` meets its contract: its test is that of `power_of`, and the product is the checked one. Assumes nothing.
use mathlib.Core.Path.{◌≡◌, sym, ◌∙◌, ap}
use mathlib.Core.Bool.{true, false}
use lib.Ieee.{Float, binary64, of_bits, eq}
use Rattle.arithmetic.specs.Checked.{real, ◌⊗◌}
use Rattle.exponentials.specs.Exp.{exp_of}
use Rattle.logarithms.specs.Ln.{ln_of}
use Rattle.elementary.specs.Power.{power_of}
use Rattle.arithmetic.proofs.Literals.{lit_0}
use Rattle.exponentials.proofs.ExpRange.{exp_squash}
use Rattle.elementary.proofs.Ranges.{power_squash}
use Rattle.saturation.proofs.estimates.Theta.raised.Goals as goal

zero : (x t : Float) → eq x (real 0) ≡ true → of_bits binary64 0 ≡ power_of x t
unfolding power_of
zero x t e = simp (e, lit_0)

other : (x t : Float) → eq x (real 0) ≡ false → exp_of (t ⊗ ln_of x) ≡ power_of x t
unfolding power_of
other x t e = simp e

pub returns-then-self : goal.returns-then-self
returns-then-self c = zero _ _ (simp lit_0 at c.if-self.true) ∙ sym (power_squash _ _)

pub returns : goal.returns
unfolding ◌⊗◌
returns c =
    c.exp.ensures
    ∙ sym (exp_squash _)
    ∙ ap (λ (l : Float). exp_of (c.args.t ⊗ l)) c.args.self.worked
    ∙ other _ _ (simp lit_0 at c.if-self.false)
    ∙ sym (power_squash _ _)
