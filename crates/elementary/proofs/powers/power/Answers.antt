-- `power` meets its contract: its test is that of `power_of`, and the product is the checked one. Assumes nothing.
use mathlib.Core.Path.{sym, ◌∙◌, ap}
use lib.Ieee.{Float}
use Rattle.arithmetic.specs.Checked.{◌⊗◌}
use Rattle.exponentials.specs.Exp.{exp_of}
use Rattle.elementary.specs.Power.{power_of}
use Rattle.arithmetic.proofs.Literals.{lit_0}
use Rattle.exponentials.proofs.ExpRange.{exp_squash}
use Rattle.elementary.proofs.powers.power.Goals as goal

pub returns-then-x : goal.returns-then-x
unfolding power_of
returns-then-x c = simp (lit_0, simp lit_0 at c.if-x.true)

pub returns : goal.returns
unfolding power_of ◌⊗◌
returns c = simp (simp lit_0 at c.if-x.false) (c.exp.ensures ∙ sym (exp_squash _) ∙ ap (λ (l : Float). exp_of (c.args.t ⊗ l)) c.ln.ensures)
