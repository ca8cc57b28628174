-- `part1` meets its contract: squash goes through each operation, and the divisor, which is worked, is tested. Assumes nothing.
use mathlib.Core.Path.{◌≡◌, sym, ◌∙◌}
use Rattle.arithmetic.specs.Checked.{◌⊘◌}
use Rattle.exponentials.specs.Exp.{exp_of}
use Rattle.arithmetic.proofs.Operations.{operations}
use Rattle.arithmetic.proofs.Forced.{forced}
use Rattle.exponentials.proofs.ExpRange.{exp_squash, exp_squashed}
use Rattle.arithmetic.proofs.Literals.{lit_1, squash_1}
use Rattle.ideal.specs.Ideal.{part1}
use Rattle.ideal.proofs.part1.Goals as goal

pub returns : goal.returns
unfolding part1
returns c =
    let w : c.exp-w.result ≡ exp_of (c.args.pair.u ⊘ c.args.t) =
    c.exp-w.ensures ∙ sym (exp_squash _) ∙ simp operations in
    simp (operations, c.over.ensures, w, exp_squashed, lit_1, squash_1, forced)
