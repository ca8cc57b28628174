-- `i0` meets its contract: squash goes through each operation, and of each pair the sum adds part0. Assumes nothing.
use mathlib.Core.Path.{◌∙◌}
use borrow.Author.Rules.{rules}
use Rattle.arithmetic.proofs.Literals.{lit_1, squash_1}
use Rattle.arithmetic.proofs.Operations.{operations}
use Rattle.logarithms.proofs.Ranges.{ln_squashed}
use Rattle.ideal.specs.Ideal.{part0, I0}
use Rattle.ideal.proofs.i0.Goals as goal

pub returns : goal.returns
unfolding I0
returns c =
    let total = c.total.ensures (part0 c.args.t) (λ p x h. search rules) in
    c.squash.ensures ∙ simp (operations, lit_1, squash_1, c.ln.ensures, ln_squashed, total, c.single_numbers-a1.ensures)
