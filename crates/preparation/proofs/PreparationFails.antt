-- At a permitted t and c, in lists long enough, a preparation is refused, with 12, exactly if one of the pressures at the ends 0 .. c
-- gives 12; and what every outcome leaves in the lists.
use mathlib.Core.Path.{◌≡◌, refl}
use mathlib.Core.Logic.{◌↔◌}
use mathlib.Core.List.{List}
use mathlib.Core.Bool.{Bool, true, false}
use Prim.Native.Nat.{ℕ, ◌+◌, ◌<◌}
use native.Mathlib.Omega.{arith}
use lib.ListN.{length}
use lib.Ieee.{Float}
use Rattle.std.specs.Prelude.{Ok, Err}
use Rattle.refusals.specs.declared.Refusal.{Refusal}
use Rattle.refusals.specs.declared.Refusal.TheVariants.{WorkNotFinite}
use Rattle.arithmetic.specs.Checked.{real}
use Rattle.search.specs.Plain.{at_ends}
use Rattle.search.specs.Lists.{greatest, least, some_not_finite, filled, left_in, greatest_list, least_list}
use Rattle.search.specs.Quick.{entries_of}
use Rattle.search.proofs.Filling.{filled_rest}
use Rattle.search.proofs.PreparationFails as any
use Rattle.refusals.specs.Answer.{Permit}
use Rattle.refusals.specs.Order.{left_by}
use Rattle.fluids.specs.declared.Fluid.{Fluid}
use Rattle.inputs.specs.Inputs.{room_of, prepare_permit}
use Rattle.steps.specs.Steps.{pressures_of}
use Rattle.preparation.specs.Prepare.{prepared_by, prepare_of, greatest_after, least_after}

-- ---- the exact condition

refused_by : (b : Bool) (e : Refusal) → prepared_by (Ok tt) b ≡ Err e → (b ≡ true) × (e ≡ WorkNotFinite)
refused_by true e r = (refl, cc)
refused_by false e r = (cc, cc)

module _ (F : Fluid) (t : Float) (c : ℕ) (g l : List Float) (permitted : prepare_permit F t c (room_of c (length g) (length l)) ≡ (Ok tt)) where
  pub fails_with_twelve : (e : Refusal) → prepare_of F t c g l ≡ Err e → e ≡ WorkNotFinite
  unfolding prepare_of
  fails_with_twelve e r = (refused_by (some_not_finite (at_ends (pressures_of F t)) (c + 1)) e (rw permitted at r)).1

  pub fails_exactly : (prepare_of F t c g l ≡ Err WorkNotFinite) ↔ any.GivesTwelve (at_ends (pressures_of F t)) c
  unfolding prepare_of
  fails_exactly =
      let q = at_ends (pressures_of F t) in (
        (λ r. (any.fails_exactly q c).0 (refused_by (some_not_finite q (c + 1)) WorkNotFinite (rw permitted at r)).0),
        (λ twelve. rw (permitted, (any.fails_exactly q c).1 twelve)),
      )

-- ---- what is left in the lists

-- refused inputs leave both as they were
pub refused_leaves : (F : Fluid) (t : Float) (c : ℕ) (g l : List Float) (e : Refusal) → prepare_permit F t c (room_of c (length g) (length l)) ≡ Err e → (greatest_after F t c g l ≡ g) × (least_after F t c g l ≡ l)
unfolding greatest_after least_after
refused_leaves F t c g l e r = (rw r, rw r)

-- a preparation that met 12 leaves +0 in the first c + 1 places of both
pub twelve_leaves : (F : Fluid) (t : Float) (c : ℕ) (g l : List Float) → prepare_permit F t c (room_of c (length g) (length l)) ≡ Ok tt → some_not_finite (at_ends (pressures_of F t)) (c + 1) ≡ true
    → (greatest_after F t c g l ≡ filled (λ j. real 0) (c + 1) g) × (least_after F t c g l ≡ filled (λ j. real 0) (c + 1) l)
unfolding greatest_after least_after
twelve_leaves F t c g l r s =
    let (greatest-zeros, least-zeros) = any.zeros_left (at_ends (pressures_of F t)) c g l s in
    (rw r greatest-zeros, rw r least-zeros)

-- places after c + 1 never change
rest_by : (i : Permit) (before after : List Float) (k : ℕ) → entries_of after k ≡ entries_of before k → entries_of (left_by i before after) k ≡ entries_of before k
rest_by (Ok _) before after k e = e
rest_by (Err r) before after k e = refl

module _ (F : Fluid) (t : Float) (c : ℕ) (g l : List Float) (k : ℕ) (beyond : c < k) where
  pub greatest_rest : entries_of (greatest_after F t c g l) k ≡ entries_of g k
  unfolding greatest_after greatest_list
  greatest_rest =
      let q = at_ends (pressures_of F t) in
      rest_by (prepare_permit F t c (room_of c (length g) (length l))) g (greatest_list q c g) k (filled_rest (left_in (some_not_finite q (c + 1)) (greatest q)) (c + 1) g k (omega arith))

  pub least_rest : entries_of (least_after F t c g l) k ≡ entries_of l k
  unfolding least_after least_list
  least_rest =
      let q = at_ends (pressures_of F t) in
      rest_by (prepare_permit F t c (room_of c (length g) (length l))) l (least_list q c l) k (filled_rest (left_in (some_not_finite q (c + 1)) (least q c)) (c + 1) l k (omega arith))
