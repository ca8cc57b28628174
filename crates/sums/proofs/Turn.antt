-- One turn of the summing loop gives the sums over one row more: a row and six sums that are computed first are the same.
use mathlib.Core.Path.{◌≡◌, sym, ◌∙◌}
use mathlib.Core.List.{List, map}
use Prim.Native.Nat.{ℕ, suc, ◌+◌}
use native.Mathlib.Numerals.{add-one}
use lib.ListN.{get_or, get_or-map}
use lib.Ieee.{Float, nan}
use Rattle.arithmetic.specs.Checked.{squash}
use Rattle.arithmetic.proofs.Forced.{forced}
use Rattle.arithmetic.proofs.Literals.{squash_1}
use Rattle.arithmetic.proofs.Operations.{⊕_right, ⊗_left, ⊗_right}
use Rattle.exponentials.proofs.ExpRange.{exp_squashed}
use Rattle.fluids.specs.declared.Term.{Term}
use Rattle.fluids.specs.declared.Term.TheVariants.{Plain, Damped, Bell}
use Rattle.sums.specs.declared.rows.Row.{Row}
use Rattle.sums.specs.declared.Sums.{Sums}
use Rattle.sums.specs.Rows.{x_at, row_at}
use Rattle.sums.specs.Squashed.{squash_row}
use Rattle.sums.specs.Sums.{row_first, sums_first, add_row, row_of, sums_to}
use Rattle.fluids.specs.Entry.{term_of}

row_first_lem : {B : Type 0} (w : Row) (k : Row → B) → row_first w k ≡ k w
unfolding row_first
row_first_lem w k = simp forced

sums_first_lem : {B : Type 0} (s : Sums) (k : Sums → B) → sums_first s k ≡ k s
unfolding sums_first
sums_first_lem s k = simp forced

x_squashed : (δ b : Float) (term : Term) → squash (x_at δ b term) ≡ x_at δ b term
unfolding x_at
x_squashed δ b (Plain n t d) = squash_1
x_squashed δ b (Damped n t d l) = exp_squashed _
x_squashed δ b (Bell n t d η β γ ε) = exp_squashed _

-- what a list squashed entry by entry has at a place
squashed_at : (ws : List Float) (i : ℕ) → get_or (map squash ws) i nan ≡ squash (get_or ws i nan)
squashed_at ws i = get_or-map squash ws i nan

-- the sums do not see whether a row was squashed
add_row_squashed : (s : Sums) (w : Row) → add_row s (squash_row w) ≡ add_row s w
add_row_squashed s w = simp (⊕_right, ⊗_left, ⊗_right)

module _ (δ τ : Float) (rows : List Term) (powers bells : List Float) (i : ℕ) where
  pub this_row :
      (x : Float) → x ≡ x_at δ (squash (get_or bells i nan)) (term_of rows i) →
      row_at δ τ (squash (get_or powers i nan)) (squash x) (term_of rows i) ≡ row_of δ τ rows (map squash powers) (map squash bells) i
  unfolding row_of
  this_row x f = simp (squashed_at, f, x_squashed)

  pub sums_next : add_row (sums_to δ τ rows powers bells i) (row_of δ τ rows powers bells i) ≡ sums_to δ τ rows powers bells (suc i)
  unfolding sums_to
  sums_next = sym (sums_first_lem _ _ ∙ row_first_lem _ _)

  pub sums_turn :
      (s : Sums) (w : Row) → s ≡ sums_to δ τ rows powers bells i → w ≡ squash_row (row_of δ τ rows powers bells i) →
      add_row s w ≡ sums_to δ τ rows powers bells (i + 1)
  sums_turn s w p q = rw (add-one, p, q, add_row_squashed) sums_next
