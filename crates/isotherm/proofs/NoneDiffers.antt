-- Over lists that a successful preparation left no pair of answers differs, at however many pressures: the quick search is the plain one.
-- So `isotherm` prints 0 wherever it prints a number. Assumes nothing.
use mathlib.Core.Path.{◌≡◌, refl}
use mathlib.Core.Bool.{true}
use mathlib.Core.List.{List}
use Prim.Native.Nat.{ℕ, zero, suc, ◌*◌}
use borrow.Author.Tests.{eq-eqb}
use lib.Ieee.{Float}
use Rattle.std.specs.Prelude.{Result, Ok, Err}
use Rattle.fluids.specs.declared.Fluid.{Fluid}
use Rattle.fluids.specs.Entries.{fluid_numbered}
use Rattle.refusals.specs.declared.Refusal.{Refusal}
use Rattle.inputs.specs.Numbered.{by_name}
use Rattle.arithmetic.specs.Checked.{real}
use Rattle.search.specs.declared.Side.{Side}
use Rattle.search.specs.declared.Side.TheVariants.{FromBelow, FromAbove}
use Rattle.search.specs.declared.Found.{Found}
use Rattle.preparation.specs.Prepare.{prepare_of, greatest_after, least_after, prepare_by, greatest_by, least_by}
use Rattle.refusals.specs.Code.{answer_code_of}
use Rattle.outcomes.specs.Parts.{found_bits_of, found_word_of}
use Rattle.density.specs.Calls.{plain_of, quick_of}
use Rattle.density.proofs.QuickIsPlain.{quick_is_plain}
use Rattle.isotherm.specs.Pairs.{same_of, differs_at, differing}

same_as_itself : (a : Result Found Refusal) → same_of a a ≡ true
unfolding same_of
same_as_itself a =
    simp (
      eq-eqb (answer_code_of a) (answer_code_of a) refl,
      eq-eqb (found_bits_of a) (found_bits_of a) refl,
      eq-eqb (found_word_of a) (found_word_of a) refl,
    )

-- the quick call is the plain one, whatever the number names
named_alike :
    (named : Result Fluid Refusal) (t : Float) (c : ℕ) (g₀ l₀ : List Float) → by_name Err named (λ F. prepare_of F t c g₀ l₀) ≡ Ok tt → (P : Float) (side : Side) →
    by_name Err named (λ F. quick_of F t P c side (by_name (λ (r : Refusal). g₀) named (λ F. greatest_after F t c g₀ l₀)) (by_name (λ (r : Refusal). l₀) named (λ F. least_after F t c g₀ l₀)))
    ≡ by_name Err named (λ F. plain_of F t P c side)
named_alike (Ok F) t c g₀ l₀ ready P side = quick_is_plain F t c g₀ l₀ ready P side
named_alike (Err r) t c g₀ l₀ ready P side = refl

module _ (number : ℕ) (t : Float) (c : ℕ) (g₀ l₀ : List Float) (ready : prepare_by number t c g₀ l₀ ≡ Ok tt) where
  none_at : (P : Float) (side : Side) → differs_at number t P c side (greatest_by number t c g₀ l₀) (least_by number t c g₀ l₀) ≡ 0
  unfolding differs_at
  none_at P side = rw (named_alike (fluid_numbered number) t c g₀ l₀ ready P side, same_as_itself)

  pub none_differs : (k : ℕ) → differing number t c (greatest_by number t c g₀ l₀) (least_by number t c g₀ l₀) k ≡ 0
  unfolding differing
  none_differs zero = refl
  none_differs (suc k) = simp (none_differs k, none_at (real (100000 * suc k)) FromBelow, none_at (real (100000 * suc k)) FromAbove)
