-- `ln` meets its contract: its test is that of `within`, and in range the parts are those of the definition. Assumes nothing.
use mathlib.Core.Path.{◌≡◌, refl, sym, ◌∙◌}
use mathlib.Core.Bool.{true, not, true≢false}
use Prim.Native.Nat.{◌^◌}
use borrow.Author.Rules.{rules}
use lib.Dec.{T}
use lib.Ieee.{Float, nan, inf, fin, is_nan, of_bits, le}
use lib.Ieee.Scale.{finite}
use Rattle.arithmetic.specs.Checked.{real, two⁻, within, between}
use Rattle.logarithms.specs.Ln.{ln_of}
use Rattle.arithmetic.proofs.Within.{finite_within}
use Rattle.logarithms.proofs.Literals.{lit_range, finite_two⁻60, finite_two60}
use Rattle.logarithms.proofs.ln.Goals as goal

finite_no_nan : (x : Float) → finite x ≡ true → T (not (is_nan x))
unfolding is_nan
finite_no_nan nan p = absurd (true≢false (sym p))
finite_no_nan (inf s) p = tt
finite_no_nan (fin s m e) p = tt

pub split-requires : goal.split-requires
split-requires c =
    let test : between (two⁻ 60) c.args.x (real (2 ^ 60)) ≡ true = sym (c.between.ensures ∙ lit_range c.args.x) ∙ c.if-between.true in
    let low : le (two⁻ 60) c.args.x ≡ true = search rules in
    let high : le c.args.x (real (2 ^ 60)) ≡ true = search rules in
    finite_no_nan _ (finite_within _ _ _ finite_two⁻60 finite_two60 low high)

pub returns-then-between : goal.returns-then-between
unfolding ln_of within
returns-then-between c =
    c.squash.ensures ∙ c.work.ensures ∙ simp (c.split.ensures.0, c.split.ensures.1, sym (c.between.ensures ∙ lit_range c.args.x) ∙ c.if-between.true)

pub returns-else-between : goal.returns-else-between
unfolding ln_of within of_bits
returns-else-between c = rw (sym (c.between.ensures ∙ lit_range c.args.x) ∙ c.if-between.false) refl
