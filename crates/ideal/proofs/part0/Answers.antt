-- `part0` meets its contract: squash goes through each operation, and exp and ln do not see it. Assumes nothing.
use mathlib.Core.Path.{◌≡◌, sym, ◌∙◌}
use Rattle.arithmetic.specs.Checked.{real, minus, ◌⊖◌, ◌⊘◌}
use Rattle.exponentials.specs.Exp.{exp_of}
use Rattle.logarithms.specs.Ln.{ln_of}
use Rattle.arithmetic.proofs.Operations.{operations}
use Rattle.exponentials.proofs.ExpRange.{exp_squash, exp_squashed}
use Rattle.logarithms.proofs.Ranges.{ln_squash, ln_squashed}
use Rattle.arithmetic.proofs.Literals.{lit_1, squash_1}
use Rattle.ideal.specs.Ideal.{part0}
use Rattle.ideal.proofs.part0.Goals as goal

pub returns : goal.returns
unfolding part0
returns c =
    let below : c.exp-below.result ≡ exp_of (minus (c.args.pair.u ⊘ c.args.t)) =
    c.exp-below.ensures ∙ sym (exp_squash _) ∙ simp operations in
    let logged : c.ln.result ≡ ln_of (real 1 ⊖ exp_of (minus (c.args.pair.u ⊘ c.args.t))) =
    c.ln.ensures ∙ sym (ln_squash _) ∙ simp (operations, lit_1, squash_1, below, exp_squashed) in
    simp (operations, logged, ln_squashed)
