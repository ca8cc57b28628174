-- A search asks for no pressure beyond its top: over pressures that agree up to there it ends alike. By its turns, one after the other.
use mathlib.Core.Path.{◌≡◌, refl}
use Prim.Native.Nat.{ℕ, zero, suc, ◌+◌, ◌/◌, ◌≤◌, ◌<◌}
use native.Mathlib.Omega.{arith}
use lib.Ieee.{Float}
use Rattle.std.specs.Prelude.{Result, Ok, Err}
use Rattle.refusals.specs.declared.Refusal.{Refusal}
use Rattle.search.specs.declared.Side.{Side}
use Rattle.search.specs.declared.Side.TheVariants.{FromBelow, FromAbove}
use Rattle.search.specs.Plain.{end_step, visit_up, cell_from_below, visit_down, cell_from_above}
use Rattle.search.specs.InCell.{halved, in_cell}
use Rattle.search.specs.Quick.{above, halved_places, enclosing, quick_cell}
use Rattle.search.specs.BySide.{plain_cell_of}
use Rattle.search.proofs.ListHalving.{halving_below}

-- ---- pressures at coarse ends

module _ (q r : ℕ → Float) (top : ℕ) (same : (j : ℕ) → j ≤ top → q j ≡ r j) (P : Float) where
  up_alike : (n j : ℕ) → j + n ≤ top → visit_up q P n j ≡ visit_up r P n j
  unfolding visit_up
  up_alike zero j h = refl
  up_alike (suc n) j h = rw (same (j + 1) (omega arith), up_alike n (j + 1) (omega arith))

  down_alike : (j : ℕ) → j ≤ top → visit_down q P j ≡ visit_down r P j
  unfolding visit_down
  down_alike zero h = refl
  down_alike (suc j) h = rw (same j (omega arith), down_alike j (omega arith))

  pub plain_alike : (side : Side) (c : ℕ) → c ≤ top → plain_cell_of side q P c ≡ plain_cell_of side r P c
  unfolding cell_from_below cell_from_above
  plain_alike FromBelow c h = up_alike c 0 (omega arith)
  plain_alike FromAbove c h = rw (same c h, down_alike c h)

  enclosing_alike : (a : ℕ) → a < top → enclosing q P a ≡ enclosing r P a
  unfolding enclosing
  enclosing_alike a h = rw (same a (omega arith), same (a + 1) (omega arith))

  pub quick_alike : (f : ℕ → Float) (c : ℕ) → 1 ≤ c → c ≤ top → quick_cell f q P c ≡ quick_cell f r P c
  unfolding quick_cell
  quick_alike f c some h = rw (enclosing_alike (halved_places (above P f) c 0 c) (omega (arith, halving_below (above P f) c 0 c some)))

-- ---- pressures at steps

module _ (p r : ℕ → Float) (top : ℕ) (same : (k : ℕ) → k ≤ end_step top → p k ≡ r k) (P : Float) where
  halved_alike : (n lower upper : ℕ) → lower ≤ upper → upper ≤ end_step top → halved p P n lower upper ≡ halved r P n lower upper
  unfolding halved
  halved_alike zero lower upper h k = refl
  halved_alike (suc n) lower upper h k =
      let m = (lower + upper) / 2 in
      rw (same m (omega arith), halved_alike n m upper (omega arith) k, halved_alike n lower m (omega arith) (omega arith))

  pub in_cell_alike : (x : Result ℕ Refusal) → ((j : ℕ) → x ≡ Ok j → j < top) → in_cell p P x ≡ in_cell r P x
  unfolding in_cell
  in_cell_alike (Ok j) under = let h = under j refl in halved_alike _ (end_step j) (end_step (j + 1)) (omega arith) (omega arith)
  in_cell_alike (Err d) under = refl
