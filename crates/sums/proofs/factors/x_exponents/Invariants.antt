-- `x_exponents` meets its contract, row by row. Assumes nothing.
use mathlib.Core.Path.{◌≡◌}
use mathlib.Core.List.{List}
use Prim.Native.Nat.{ℕ, ◌+◌}
use lib.Ieee.{Float}
use Rattle.arithmetic.specs.Checked.{squash}
use Rattle.exponentials.specs.Exp.{exp_of}
use Rattle.arithmetic.proofs.Places.{Worked}
use Rattle.fluids.specs.declared.Term.{Term}
use Rattle.fluids.specs.Entries.{entry_of}
use Rattle.sums.specs.Factors.{x_of_row}
use Rattle.sums.proofs.factors.x_exponents.Given as goal

abbrev pub Done : Float → List Term → List Float → ℕ → Float → Type 0
Done delta terms bells k v = exp_of v ≡ x_of_row (squash delta) terms bells (7 + k)

abbrev pub invariant-loop-j : goal.invariant-loop-j
invariant-loop-j l = Worked 7 (Done l.delta (entry_of l.fn.fluid).rows l.bells) (λ k v. Unit {0}) l.j l.exponents
