-- 01, "Sums of one state, six reals kept together": they start at 0 and run in table order.
use Rattle.std.specs.Prelude.{List, map, ℕ, zero, suc, Float, get_or, length}
use Rattle.std.specs.Float.{nan}
use Rattle.arithmetic.specs.Checked.{real, squash, ◌▷◌, ◌⊕◌, ◌⊗◌}
use Rattle.fluids.specs.declared.Term.{Term}
use Rattle.fluids.specs.Entry.{term_of}
use Rattle.fluids.specs.Entries.{entry_of}
use Rattle.kept.specs.declared.Kept.{Kept}
use Rattle.sums.specs.declared.rows.Row.{Row}
use Rattle.sums.specs.declared.Sums.{Sums}
use Rattle.sums.specs.Rows.{x_at, row_at}

-- a row, or six sums, computed first
unfoldable pub row_first : {B : Type 0} → Row → (Row → B) → B
row_first w k = w.a ▷ λ a. w.q ▷ λ q. w.r ▷ λ r. w.f ▷ λ f. w.g ▷ λ g. k (record { a = a; q = q; r = r; f = f; g = g })

unfoldable pub sums_first : {B : Type 0} → Sums → (Sums → B) → B
sums_first s k =
    s.s0 ▷ λ s0. s.s1 ▷ λ s1. s.s2 ▷ λ s2. s.t1 ▷ λ t1. s.t2 ▷ λ t2. s.st ▷ λ st.
    k (record { s0 = s0; s1 = s1; s2 = s2; t1 = t1; t2 = t2; st = st })

abbrev pub no_sums : Sums
no_sums = record { s0 = real 0; s1 = real 0; s2 = real 0; t1 = real 0; t2 = real 0; st = real 0 }

-- S0 = ΣA, S1 = ΣA·q, S2 = ΣA·f, T1 = ΣA·r, T2 = ΣA·g, ST = ΣA·q·r
abbrev pub add_row : Sums → Row → Sums
add_row s w = record {
  s0 = s.s0 ⊕ w.a;
  s1 = s.s1 ⊕ w.a ⊗ w.q;
  s2 = s.s2 ⊕ w.a ⊗ w.f;
  t1 = s.t1 ⊕ w.a ⊗ w.r;
  t2 = s.t2 ⊕ w.a ⊗ w.g;
  st = s.st ⊕ w.a ⊗ w.q ⊗ w.r;
}

-- row i of the table at δ and τ, with its power and its bell's part
module _ (δ τ : Float) (rows : List Term) (powers bells : List Float) where
  unfoldable pub row_of : ℕ → Row
  row_of i = row_at δ τ (get_or powers i nan) (x_at δ (get_or bells i nan) (term_of rows i)) (term_of rows i)

  -- the sums over the first i rows
  unfoldable pub sums_to : ℕ → Sums
  sums_to zero = no_sums
  sums_to (suc i) = sums_first (sums_to i) λ s. row_first (row_of i) λ w. add_row s w

-- the six sums at δ; a kept value that is not finite counts as `nan`
unfoldable pub sums_at : Kept → Float → Sums
sums_at k δ =
    let rows = (entry_of k.fluid).rows in
    sums_to (squash δ) (squash k.tau) rows (map squash k.powers) (map squash k.bells) (length rows)
