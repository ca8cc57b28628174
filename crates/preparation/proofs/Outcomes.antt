-- What a preparation ends with and leaves, by its parts: what refused inputs give, and what permitted ones.
use mathlib.Core.Path.{◌≡◌, sym, ap, ◌∙◌}
use mathlib.Core.List.{List}
use Prim.Native.Nat.{ℕ, ◌+◌, ◌≤◌, ◌<◌}
use native.Mathlib.Omega.{arith}
use lib.ListN.{length}
use lib.Ieee.{Float}
use Rattle.std.specs.Prelude.{Ok, Err}
use Rattle.refusals.specs.Answer.{Permit}
use Rattle.refusals.proofs.Apart.{ok≢err}
use Rattle.refusals.specs.declared.Refusal.{Refusal}
use Rattle.arithmetic.specs.Checked.{real}
use Rattle.fluids.specs.declared.Fluid.{Fluid}
use Rattle.kept.specs.declared.Kept.{Kept}
use Rattle.kept.specs.Kept.{kept_of}
use Rattle.search.specs.Plain.{at_ends}
use Rattle.search.specs.Lists.{greatest, least, some_not_finite, filled, greatest_list, least_list}
use Rattle.search.specs.Quick.{entries_of}
use Rattle.search.proofs.Filling.{filled_same, filled_over, filled_entry}
use Rattle.search.proofs.GreatestAndLeast.{greatest_same, least_same}
use Rattle.steps.specs.Steps.{step_pressure_of}
use Rattle.inputs.specs.Inputs.{room_of, prepare_permit}
use Rattle.preparation.specs.Filled.{Filled}
use Rattle.preparation.specs.Prepare.{prepared_by, prepare_of, greatest_after, least_after}

-- what the call gives, and what it leaves in both lists
pub record Prepares (F : Fluid) (t : Float) (c : ℕ) (g₀ l₀ : List Float) (r : Permit) (g l : List Float) : Type 0 where
  pub outcome : r ≡ prepare_of F t c g₀ l₀
  pub greatest_left : g ≡ greatest_after F t c g₀ l₀
  pub least_left : l ≡ least_after F t c g₀ l₀

module _ (F : Fluid) (t : Float) (c : ℕ) (g₀ l₀ : List Float) where
  pub prepare_refused : (r : Refusal) → prepare_permit F t c (room_of c (length g₀) (length l₀)) ≡ Err r → Prepares F t c g₀ l₀ (Err r) g₀ l₀
  unfolding prepare_of greatest_after least_after
  prepare_refused r e = record { outcome = sym (rw e); greatest_left = sym (rw e); least_left = sym (rw e) }

  pub prepare_answered : (kept : Kept) (r : Permit) (g l : List Float) → prepare_permit F t c (room_of c (length g₀) (length l₀)) ≡ Ok tt → kept ≡ kept_of F t
      → r ≡ prepared_by (Ok tt) (some_not_finite (at_ends (step_pressure_of kept)) (c + 1)) → g ≡ greatest_list (at_ends (step_pressure_of kept)) c g₀ → l ≡ least_list (at_ends (step_pressure_of kept)) c l₀
      → Prepares F t c g₀ l₀ r g l
  unfolding prepare_of greatest_after least_after
  prepare_answered kept r g l e k a b d = record {
    outcome = a ∙ ap (λ (y : Kept). prepared_by (Ok tt) (some_not_finite (at_ends (step_pressure_of y)) (c + 1))) k ∙ sym (rw e);
    greatest_left = b ∙ ap (λ (y : Kept). greatest_list (at_ends (step_pressure_of y)) c g₀) k ∙ sym (rw e);
    least_left = d ∙ ap (λ (y : Kept). least_list (at_ends (step_pressure_of y)) c l₀) k ∙ sym (rw e);
  }

-- the lists filled and swept, or filled and cleared
module _ (q : ℕ → Float) (c : ℕ) (g₀ l₀ g l g' l' : List Float) where
  filled_all : Filled q c g₀ l₀ (Ok tt) g l → c < length g₀ → c < length l₀ → g' ≡ filled (greatest (entries_of g)) (c + 1) g → l' ≡ filled (least (entries_of l) c) (c + 1) l
      → ((Ok tt) ≡ prepared_by (Ok tt) (some_not_finite q (c + 1))) × (g' ≡ greatest_list q c g₀) × (l' ≡ least_list q c l₀)
  unfolding greatest_list least_list
  filled_all (s, fg, fl) hg hl sg sl =
      let raw : (xs₀ xs : List Float) → c < length xs₀ → xs ≡ filled q (c + 1) xs₀ → (i : ℕ) → i ≤ c → entries_of xs i ≡ q i =
      λ xs₀ xs h e i k. ap (λ (ys : List Float). entries_of ys i) e ∙ filled_entry q (c + 1) xs₀ i (omega arith) (omega arith) in (
        sym (simp s),
        sym (simp s (sym
            (sg ∙ filled_same (greatest (entries_of g)) (greatest q) (c + 1) g (λ i h. greatest_same (entries_of g) q i (λ k a. raw g₀ g hg fg k (omega arith)))
            ∙ ap (filled (greatest q) (c + 1)) fg
            ∙ filled_over (greatest q) q (c + 1) (c + 1) g₀ (omega arith)))),
        sym (simp s (sym
            (sl ∙ filled_same (least (entries_of l) c) (least q c) (c + 1) l (λ i h. least_same (entries_of l) q c i (omega arith) (λ k a. raw l₀ l hl fl k a))
            ∙ ap (filled (least q c) (c + 1)) fl
            ∙ filled_over (least q c) q (c + 1) (c + 1) l₀ (omega arith)))),
      )

  pub lists_ready : (p : Permit) → p ≡ Ok tt → Filled q c g₀ l₀ p g l → c < length g₀ → c < length l₀ → g' ≡ filled (greatest (entries_of g)) (c + 1) g → l' ≡ filled (least (entries_of l) c) (c + 1) l
      → ((Ok tt) ≡ prepared_by (Ok tt) (some_not_finite q (c + 1))) × (g' ≡ greatest_list q c g₀) × (l' ≡ least_list q c l₀)
  lists_ready (Ok _) e f hg hl sg sl = filled_all f hg hl sg sl
  lists_ready (Err r) e f hg hl sg sl = absurd (ok≢err (sym e))

  filled_some : {r : Refusal} → Filled q c g₀ l₀ (Err r) g l → g' ≡ filled (λ j. real 0) (c + 1) g → l' ≡ filled (λ j. real 0) (c + 1) l
      → (Err r ≡ prepared_by (Ok tt) (some_not_finite q (c + 1))) × (g' ≡ greatest_list q c g₀) × (l' ≡ least_list q c l₀)
  unfolding greatest_list least_list
  filled_some (twelve, s, (n, h, fg, fl)) cg cl = (
    rw twelve (sym (simp s)),
    sym (simp s (sym (cg ∙ ap (filled (λ j. real 0) (c + 1)) fg ∙ filled_over (λ j. real 0) q (c + 1) n g₀ h))),
    sym (simp s (sym (cl ∙ ap (filled (λ j. real 0) (c + 1)) fl ∙ filled_over (λ j. real 0) q (c + 1) n l₀ h))),
  )

  pub lists_cleared : {r : Refusal} (p : Permit) → p ≡ Err r → Filled q c g₀ l₀ p g l → g' ≡ filled (λ j. real 0) (c + 1) g → l' ≡ filled (λ j. real 0) (c + 1) l
      → (Err r ≡ prepared_by (Ok tt) (some_not_finite q (c + 1))) × (g' ≡ greatest_list q c g₀) × (l' ≡ least_list q c l₀)
  lists_cleared (Ok _) e f cg cl = absurd (ok≢err e)
  lists_cleared {r} (Err s) e f cg cl = let same : s ≡ r = cc in rw (sym same) (filled_some f cg cl)
