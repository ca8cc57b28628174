-- `root` meets its contract: its test is that of `within`, and in range x is finite. Assumes nothing.
use mathlib.Core.Path.{◌≡◌, refl, sym, ◌∙◌}
use mathlib.Core.Bool.{true}
use Prim.Native.Nat.{◌^◌}
use lib.Ieee.{of_bits, le}
use borrow.Author.Rules.{rules}
use Rattle.arithmetic.specs.Checked.{real, within, between}
use Rattle.roots.specs.Root.{root_of}
use Rattle.arithmetic.proofs.Operations.{squash_finite}
use Rattle.arithmetic.proofs.Within.{finite_within}
use Rattle.roots.proofs.Literals.{lit_range, finite_1, finite_1e8}
use Rattle.roots.proofs.root.Goals as goal

pub returns-then-between : goal.returns-then-between
unfolding root_of within
returns-then-between c =
    let test : between (real 1) c.args.x (real (10 ^ 8)) ≡ true = sym (c.between.ensures ∙ lit_range c.args.x) ∙ c.if-between.true in
    let low : le (real 1) c.args.x ≡ true = search rules in
    let high : le c.args.x (real (10 ^ 8)) ≡ true = search rules in
    c.squash.ensures ∙ c.steps.ensures ∙ simp (squash_finite c.args.x (finite_within _ _ c.args.x finite_1 finite_1e8 low high), test)

pub returns-else-between : goal.returns-else-between
unfolding root_of within of_bits
returns-else-between c = rw (sym (c.between.ensures ∙ lit_range c.args.x) ∙ c.if-between.false) refl
