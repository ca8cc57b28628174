-- `pressure_step` meets its contract: squash goes through each operation, and the divisor, which is worked, is tested. Assumes nothing.
use mathlib.Core.Path.{◌∙◌, ap}
use Rattle.arithmetic.proofs.Operations.{squash_mul, ⊗_left, ⊗_right, ⊘_left}
use Rattle.arithmetic.proofs.Literals.{lit_1000}
use Rattle.fluids.specs.declared.Constants.{Constants}
use Rattle.coexistence.specs.Round.{pressure_step}
use Rattle.coexistence.proofs.round.pressure_step.Goals as goal

pub returns : goal.returns
unfolding pressure_step
returns c =
    let gas = ap (λ (k : Constants). k.gas) c.single_numbers-gas.ensures in
    c.over.ensures ∙ simp (⊘_left, squash_mul, ⊗_left, ⊗_right, lit_1000, gas)
