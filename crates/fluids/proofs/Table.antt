-- A copy of a fluid's table of terms has fourteen rows of finite numbers, and a map puts at a place what it makes of the row there:
-- from the entry's one computed test.
use mathlib.Core.Path.{◌≡◌, sym, ◌∙◌, ap, subst}
use mathlib.Core.List.{List, map}
use Prim.Native.Nat.{ℕ, ◌<◌}
use lib.Dec.{T}
use lib.ListN.{length, get_or, length-map, get_or-map}
use lib.Ieee.{Float, nan}
use Rattle.std.specs.List.{list_all}
use Rattle.std.proofs.lemmas.List.{get_or_default}
use Rattle.fluids.specs.declared.Term.{Term}
use Rattle.fluids.specs.declared.Fluid.{Fluid}
use Rattle.fluids.specs.Entry.{no_term}
use Rattle.fluids.specs.Entries.{entry_of}
use Rattle.fluids.specs.Finite.{FiniteTerm}
use Rattle.fluids.proofs.Sound.{finite_term, term_finite, every_at, sound}

-- what is read of a copy of the table
module _ (F : Fluid) (ts : List Term) (e : ts ≡ (entry_of F).rows) where
  pub fourteen : length ts ≡ 14
  fourteen = ap length e ∙ (sound F).fourteen

  pub read_row : (d : Term) (i : ℕ) → i < 14 → get_or ts i d ≡ get_or ts i no_term
  read_row d i h = get_or_default ts i d no_term (rw fourteen h)

  pub read_row_finite : (d : Term) (i : ℕ) → i < 14 → FiniteTerm (get_or ts i d)
  read_row_finite d i h =
      term_finite (get_or ts i d)
      (every_at finite_term ts d (subst (λ (l : List Term). T (list_all finite_term l)) (sym e) (sound F).rows) i (rw fourteen h))

  pub copied_length : (f : Term → Float) → length (map f ts) ≡ 14
  copied_length f = length-map ts f ∙ fourteen

module _ (F : Fluid) where
  pub mapped_length : (f : Term → Float) → length (map f (entry_of F).rows) ≡ 14
  mapped_length f = length-map (entry_of F).rows f ∙ (sound F).fourteen

  -- what a map has at a place
  pub mapped_at : (f : Term → Float) (i : ℕ) → i < 14 → get_or (map f (entry_of F).rows) i nan ≡ f (get_or (entry_of F).rows i no_term)
  mapped_at f i h =
      get_or_default (map f (entry_of F).rows) i nan (f no_term) (rw (mapped_length f) h) ∙ get_or-map f (entry_of F).rows i no_term
