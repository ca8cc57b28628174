-- The six sums are finite or `nan`, each by itself: they start at 0 and end with a checked sum. They are the same at δ squashed, as they
-- squash it first.
use mathlib.Core.Path.{◌≡◌, sym, ◌∙◌, ap}
use mathlib.Core.List.{List}
use Prim.Native.Nat.{ℕ, zero, suc}
use lib.ListN.{length}
use lib.Ieee.{Float}
use Rattle.arithmetic.specs.Checked.{squash}
use Rattle.arithmetic.proofs.Operations.{squash_again, ⊕_squashed}
use Rattle.arithmetic.proofs.Literals.{squash_0}
use Rattle.fluids.specs.declared.Term.{Term}
use Rattle.fluids.specs.Entries.{entry_of}
use Rattle.kept.specs.declared.Kept.{Kept}
use Rattle.sums.specs.declared.rows.Row.{Row}
use Rattle.sums.specs.declared.Sums.{Sums}
use Rattle.sums.specs.Sums.{add_row, no_sums, sums_to, sums_at}
use Rattle.sums.specs.Squashed.{squash_sums}
use Rattle.sums.proofs.Turn.{sums_next}

none_squashed : squash_sums no_sums ≡ no_sums
none_squashed = simp squash_0

added_squashed : (s : Sums) (w : Row) → squash_sums (add_row s w) ≡ add_row s w
added_squashed s w = simp ⊕_squashed

module _ (δ τ : Float) (rows : List Term) (powers bells : List Float) where
  sums_to_squashed : (i : ℕ) → squash_sums (sums_to δ τ rows powers bells i) ≡ sums_to δ τ rows powers bells i
  unfolding sums_to
  sums_to_squashed zero = none_squashed
  sums_to_squashed (suc i) =
      let next = sums_next δ τ rows powers bells i in
      ap squash_sums (sym next) ∙ added_squashed _ _ ∙ next

pub sums_squashed : (k : Kept) (δ : Float) → squash_sums (sums_at k δ) ≡ sums_at k δ
unfolding sums_at
sums_squashed k δ = sums_to_squashed _ _ (entry_of k.fluid).rows _ _ (length (entry_of k.fluid).rows)

-- the sums do not see whether δ was squashed
pub sums_squash : (k : Kept) (δ : Float) → sums_at k (squash δ) ≡ sums_at k δ
unfolding sums_at
sums_squash k δ = simp squash_again
