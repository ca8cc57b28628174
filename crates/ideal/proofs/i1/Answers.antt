-- `i1` meets its contract: squash goes through each operation, and of each pair the sum adds part1. Assumes nothing.
use mathlib.Core.Path.{◌∙◌}
use borrow.Author.Rules.{rules}
use Rattle.arithmetic.proofs.Literals.{lit_1, squash_1}
use Rattle.arithmetic.proofs.Operations.{operations}
use Rattle.ideal.specs.Ideal.{part1, I1}
use Rattle.ideal.proofs.i1.Goals as goal

pub returns : goal.returns
unfolding I1
returns c =
    let total = c.total.ensures (part1 c.args.t) (λ p x h. search rules) in
    c.squash.ensures ∙ simp (operations, lit_1, squash_1, total, c.single_numbers-a2.ensures)
