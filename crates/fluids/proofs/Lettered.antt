-- A thing by its letter or number: where these are looked through one after the other, what is found has the one that was asked for, and what is
-- refused is refused by the last.
use mathlib.Core.Path.{◌≡◌, refl, ◌∙◌, ap}
use mathlib.Core.Bool.{Bool, true, false, cond, true≢false}
use Prim.Native.Nat.{ℕ}
use borrow.Author.Tests.{eqb-true}
use lib.Dec.{eqb}
use Rattle.std.specs.Prelude.{Some, Result, Ok, Err}
use Rattle.refusals.specs.declared.Refusal.{Refusal}
use Rattle.refusals.specs.declared.Refusal.TheVariants.{UnknownFluid}
use Rattle.refusals.proofs.Apart.{ok≢err}
use Rattle.fluids.specs.declared.Fluid.{Fluid}
use Rattle.fluids.specs.declared.Fluid.TheVariants.{R245ca, R245fa}
use Rattle.fluids.specs.Entries.{fluid_numbered, letter_of, fluid_lettered}

-- one letter: it is this one's, or those after it are looked through
module _ {A N : Type 0} (letter : A → ℕ) (known : A → N) (b : ℕ) where
  pub this_or_after : {x y : A} {rest : N} → (known x ≡ known y → x ≡ y) → (rest ≡ known y → b ≡ letter y) → cond (eqb b (letter x)) (known x) rest ≡ known y → b ≡ letter y
  this_or_after {x} {y} {rest} same after = go (eqb b (letter x)) refl
    where
      go : (t : Bool) → eqb b (letter x) ≡ t → cond t (known x) rest ≡ known y → b ≡ letter y
      go true e f = eqb-true b (letter x) e ∙ ap letter (same f)
      go false e f = after f

-- a refusal: it is not this one, and those after it refuse
pub after_known : {A : Type 0} (x : A) {rest : Result A Refusal} {r : Refusal} (t : Bool) → cond t (Ok x) rest ≡ Err r → rest ≡ Err r
after_known x true e = absurd (ok≢err e)
after_known x false e = e

-- ---- fluids

-- no number is refused but by 17
pub unnumbered : (n : ℕ) {r : Refusal} → fluid_numbered n ≡ Err r → r ≡ UnknownFluid
unfolding fluid_numbered
unnumbered n e = let last = after_known _ (eqb n 1) (after_known _ (eqb n 0) e) in cc

pub lettered_letter : (F : Fluid) → fluid_lettered (letter_of F) ≡ Some F
unfolding fluid_lettered letter_of
lettered_letter R245ca = refl
lettered_letter R245fa = refl

pub letter_lettered : (b : ℕ) (F : Fluid) → fluid_lettered b ≡ Some F → b ≡ letter_of F
unfolding fluid_lettered
letter_lettered b F =
    this_or_after letter_of Some b (λ e. cc)
    (this_or_after letter_of Some b (λ e. cc)
    (λ none. absurd (true≢false cc)))
