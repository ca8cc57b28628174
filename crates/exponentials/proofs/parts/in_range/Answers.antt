-- `in_range` meets its contract: its test is that of `within`. Assumes nothing.
use mathlib.Core.Path.{refl, sym, ◌∙◌}
use lib.Ieee.{of_bits}
use Rattle.arithmetic.specs.Checked.{within}
use Rattle.exponentials.proofs.Literals.{lit_range}
use Rattle.exponentials.proofs.parts.in_range.Goals as goal

pub returns-then-between : goal.returns-then-between
unfolding within
returns-then-between c = rw (sym (c.between.ensures ∙ lit_range c.args.x) ∙ c.if-between.true) refl

pub returns-else-between : goal.returns-else-between
unfolding within of_bits
returns-else-between c = rw (sym (c.between.ensures ∙ lit_range c.args.x) ∙ c.if-between.false) refl
