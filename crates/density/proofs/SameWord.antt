-- The word of an answer follows from the fluid, T and the density found. So two answers in which these are the same have the same word, by
-- whichever search and from whichever side they were asked, and each word says what its name says.
use mathlib.Core.Path.{◌≡◌, refl, sym, ◌∙◌, subst}
use mathlib.Core.Bool.{Bool, true, false, true≢false}
use Prim.Native.Nat.{ℕ}
use lib.ListN.{length}
use lib.Ieee.{Float, lt, le}
use Rattle.std.specs.Prelude.{Result, Ok, Err}
use Rattle.refusals.specs.declared.Refusal.{Refusal}
use Rattle.fluids.specs.declared.Fluid.{Fluid}
use Rattle.fluids.specs.Entries.{entry_of, fluid_numbered}
use Rattle.search.specs.Found.{state}
use Rattle.search.specs.declared.Word.{Word}
use Rattle.search.specs.BySide.{entries_by}
use Rattle.search.specs.Searches.{quick_step}
use Rattle.inputs.specs.Inputs.{room_of, search_permit}
use Rattle.inputs.specs.Numbered.{by_name}
use Rattle.steps.specs.Steps.{pressures_of}
use Rattle.density.specs.State.{state_word_of}
use Rattle.density.specs.Calls.{plain_step_of, plain_of, quick_of}
use Rattle.density.specs.Asked.{Asked, Plain, Quick, found_of, found_by, Says}
use Rattle.density.proofs.Encloses.{answered_at}

module _ (T density : Float) where
  -- ---- a fluid

  pub named_by_density : (F : Fluid) (asked : Asked) (word : Word) → found_of F T asked ≡ Ok (state density word) → word ≡ state_word_of F T density
  unfolding plain_of quick_of
  named_by_density F (Plain P c side) word e =
      let (ok, (k, x, d, w)) = answered_at F (search_permit F T P c true) T (plain_step_of side (pressures_of F T) P c) density word e in w
  named_by_density F (Quick P c side g l) word e =
      let room = room_of c (length g) (length l) in
      let (ok, (k, x, d, w)) = answered_at F (search_permit F T P c room) T (quick_step (entries_by side g l) (pressures_of F T) P c) density word e in w

  pub same_word : (F : Fluid) (one other : Asked) (v w : Word) → found_of F T one ≡ Ok (state density v) → found_of F T other ≡ Ok (state density w) → v ≡ w
  same_word F one other v w e f = named_by_density F one v e ∙ sym (named_by_density F other w f)

  -- ---- the fluid of a number

  by_name_lem : (named : Result Fluid Refusal) (one other : Asked) (v w : Word) →
      by_name Err named (λ F. found_of F T one) ≡ Ok (state density v) → by_name Err named (λ F. found_of F T other) ≡ Ok (state density w) → v ≡ w
  by_name_lem (Ok F) one other v w e f = same_word F one other v w e f
  by_name_lem (Err r) one other v w e f = absurd (true≢false (cc))

  pub same_word_by_number : (n : ℕ) (one other : Asked) (v w : Word) → found_by n T one ≡ Ok (state density v) → found_by n T other ≡ Ok (state density w) → v ≡ w
  same_word_by_number n = by_name_lem (fluid_numbered n)

  -- ---- what it says

  says_by_tests : (F : Fluid) (hot light : Bool) → le (entry_of F).Tc T ≡ hot → lt density (entry_of F).ρc ≡ light → Says F T density (state_word_of F T density)
  unfolding state_word_of
  says_by_tests F true light p q = rw p p
  says_by_tests F false true p q = rw (p, q) (p, q)
  says_by_tests F false false p q = rw (p, q) (p, q)

  pub word_says : (F : Fluid) (asked : Asked) (word : Word) → found_of F T asked ≡ Ok (state density word) → Says F T density word
  word_says F asked word e = subst (Says F T density) (sym (named_by_density F asked word e)) (says_by_tests F _ _ refl refl)
