-- The terms of an estimate: finite numbers, one at least; and one turn of a sum, by the turns that its definition takes.
use mathlib.Core.Path.{◌≡◌, refl, sym, ◌∙◌}
use mathlib.Core.List.{List}
use Prim.Native.Nat.{ℕ, zero, suc, ◌+◌, ◌-◌, ◌≤◌}
use native.Mathlib.Nat.{zero-add}
use native.Mathlib.Numerals.{add-one}
use lib.Dec.{leb→le}
use lib.ListN.{length, get_or, take, drop}
use Rattle.std.proofs.lemmas.List.{take_rest, length-drop, get_or-drop}
use lib.Ieee.{Float, nan, binary64, add}
use lib.Ieee.Fits.{and_l}
use Rattle.arithmetic.specs.Checked.{squash}
use Rattle.arithmetic.proofs.Operations.{squash_add}
use Rattle.arithmetic.proofs.Forced.{forced}
use Rattle.fluids.specs.declared.Fluid.{Fluid}
use Rattle.fluids.specs.declared.Curve.{Curve}
use Rattle.fluids.specs.declared.Estimate.{Estimate}
use Rattle.fluids.specs.declared.Estimate.TheVariants.{Alone}
use Rattle.fluids.specs.Entry.{terms_of}
use Rattle.fluids.specs.Entries.{entry_of}
use Rattle.fluids.specs.Finite.{FiniteEstimate}
use Rattle.fluids.proofs.Sound.{every_at, finite_estimate, estimate_finite, sound}
use Rattle.saturation.specs.Estimates.{term_of, term_at, plus_terms}
use Rattle.std.specs.Prelude.{All}

-- ---- a curve's terms
module _ (F : Fluid) (curve : Curve) (ts : List Estimate) (e : ts ≡ terms_of (entry_of F) curve) where
  pub some_terms : 1 ≤ length ts
  some_terms = rw e (leb→le 1 _ (and_l _ _ ((sound F).few_terms curve)))

  pub finite_terms : All FiniteEstimate ts
  finite_terms k d h = rw e (estimate_finite _ (every_at finite_estimate _ d ((sound F).estimates curve) k (rw e at h)))

-- ---- sums
module _ (θ : Float) (terms : List Estimate) (s : Float) where
  -- one turn
  pub plus_turn : (n : ℕ) (sum x : Float) → squash sum ≡ plus_terms θ terms s 0 n → squash x ≡ term_of θ (get_or terms n (Alone nan)) →
      squash (add binary64 sum x) ≡ plus_terms θ terms s 0 (n + 1)
  unfolding plus_terms term_at
  plus_turn n sum x p q = squash_add sum x ∙ rw (add-one, zero-add, p, q) (sym (forced _ _))

  -- what follows the first term is summed as if it stood alone
  after_first : (n : ℕ) → plus_terms θ (drop 1 terms) s 0 n ≡ plus_terms θ terms s 1 n
  unfolding plus_terms term_at
  after_first zero = refl
  after_first (suc n) = rw (after_first n, zero-add, get_or-drop 1 terms n (Alone nan)) refl

  -- as the code's slice has it
  pub rest_summed : plus_terms θ (take (length terms - 1) (drop 1 terms)) s 0 (length (take (length terms - 1) (drop 1 terms))) ≡ plus_terms θ terms s 1 (length terms - 1)
  rest_summed = rw (take_rest terms 1, length-drop 1 terms) (after_first (length terms - 1))
