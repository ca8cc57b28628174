-- Where δ is a zero, S1 is +0 or `nan`: each row has a power of δ and vanishes with it, and the sum starts at +0.
use mathlib.Core.Path.{refl, subst}
use mathlib.Core.List.{List}
use mathlib.Core.Logic.{inl}
use Prim.Native.Nat.{ℕ, zero, suc, ◌<◌, ◌≤◌}
use native.Mathlib.Nat.{le_of_lt, le_refl}
use lib.Dec.{T, ltb}
use lib.ListN.{length, get_or}
use lib.Ieee.{Float}
use Rattle.arithmetic.specs.Checked.{squash, ◌⊗◌}
use Rattle.arithmetic.proofs.Forced.{forced}
use Rattle.arithmetic.proofs.Zeros.{Vanishes, zero_times, times_zero, PlusZero, zero_plus}
use Rattle.elementary.specs.Power.{◌↑◌}
use Rattle.fluids.specs.declared.Term.{Term}
use Rattle.fluids.specs.declared.Term.TheVariants.{Plain, Damped, Bell}
use Rattle.fluids.specs.Entry.{no_term}
use Rattle.fluids.specs.Entries.{entry_of}
use Rattle.std.specs.List.{list_all}
use Rattle.fluids.proofs.Sound.{every_at, deep, sound}
use Rattle.kept.specs.declared.Kept.{Kept}
use Rattle.sums.specs.declared.Sums.{Sums}
use Rattle.sums.specs.Rows.{row_at}
use Rattle.sums.specs.Sums.{row_of, sums_to, sums_at}
use Rattle.sums.proofs.Turn.{sums_next}

power_vanishes : (δ : Float) (d : ℕ) → Vanishes δ → T (ltb 0 d) → Vanishes (δ ↑ d)
unfolding ◌↑◌
power_vanishes δ zero v h = elim h [ ]
power_vanishes δ (suc d) v h = times_zero (δ ↑ d) δ v

module _ (δ τ w X : Float) (v : Vanishes δ) where
  product : (N : Float) (d : ℕ) → T (ltb 0 d) → Vanishes (((N ⊗ δ ↑ d) ⊗ w) ⊗ X)
  product N d h = zero_times _ X (zero_times _ w (times_zero N (δ ↑ d) (power_vanishes δ d v h)))

  row_vanishes : (term : Term) → T (deep term) → Vanishes (row_at δ τ w X term).a
  unfolding row_at
  row_vanishes (Plain N t d) h = simp forced (product N d h)
  row_vanishes (Damped N t d l) h = simp forced (product N d h)
  row_vanishes (Bell N t d η β γ ε) h = simp forced (product N d h)

module _ (δ τ : Float) (rows : List Term) (powers bells : List Float) (v : Vanishes δ) (all : T (list_all deep rows)) where
  this_vanishes : (i : ℕ) → i < length rows → Vanishes (row_of δ τ rows powers bells i).a
  unfolding row_of
  this_vanishes i h = row_vanishes δ τ _ _ v (get_or rows i no_term) (every_at deep rows no_term all i h)

  sum_vanishes : (i : ℕ) → i ≤ length rows → PlusZero (sums_to δ τ rows powers bells i).s1
  unfolding sums_to
  sum_vanishes zero h = inl refl
  sum_vanishes (suc i) h =
      subst (λ (s : Sums). PlusZero s.s1) (sums_next δ τ rows powers bells i)
      (zero_plus _ _ (sum_vanishes i (le_of_lt h)) (zero_times _ _ (this_vanishes i h)))

pub s1_vanishes : (k : Kept) (δ : Float) → Vanishes (squash δ) → PlusZero (sums_at k δ).s1
unfolding sums_at
s1_vanishes k δ v =
    let rows = (entry_of k.fluid).rows in
    sum_vanishes _ _ rows _ _ v (sound k.fluid).deep_rows (length rows) (le_refl _)
