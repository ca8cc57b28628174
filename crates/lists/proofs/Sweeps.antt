-- The two sweeps over a list of pressures: after each turn the places behind it hold G, or L, and the others the pressures.
use mathlib.Core.Path.{◌≡◌, sym, ap, ◌∙◌}
use mathlib.Core.List.{List}
use mathlib.Core.Bool.{cond}
use Prim.Native.Nat.{ℕ, ◌+◌, ◌≤◌, ◌<◌}
use native.Mathlib.Omega.{arith}
use borrow.Author.Tests.{ltb-true, ltb-false, lt-ltb, le-ltb}
use lib.Dec.{ltb}
use lib.ListN.{length, set}
use lib.Ieee.{Float}
use Rattle.search.specs.Lists.{greater_of, lesser_of, greatest, least, filled}
use Rattle.search.specs.Quick.{entries_of}
use Rattle.refusals.proofs.Tests.{by}
use Rattle.search.proofs.Filling.{filled_own, filled_same, filled_entry, filled_rest, filled_set, fill_next}
use Rattle.search.proofs.Turns.{greatest_turn, least_turn, least_end}

-- ---- upwards

pub up_start : (xs : List Float) → xs ≡ filled (greatest (entries_of xs)) (0 + 1) xs
unfolding greatest
up_start xs = sym (filled_own (greatest (entries_of xs)) 1 xs (λ i h. let first : i ≡ 0 = omega arith in rw first))

module _ (xs₀ xs : List Float) (j : ℕ) (room : j + 1 < length xs₀) (so_far : xs ≡ filled (greatest (entries_of xs₀)) (j + 1) xs₀) where
  pub up_next : (v : Float) → v ≡ greater_of (entries_of xs j) (entries_of xs (j + 1)) → set xs (j + 1) v ≡ filled (greatest (entries_of xs₀)) (j + 1 + 1) xs₀
  up_next v e =
      let f = greatest (entries_of xs₀) in
      let behind : entries_of xs j ≡ f j = ap (λ (ys : List Float). entries_of ys j) so_far ∙ filled_entry f (j + 1) xs₀ j (omega arith) (omega arith) in
      let here : entries_of xs (j + 1) ≡ entries_of xs₀ (j + 1) = ap (λ (ys : List Float). entries_of ys (j + 1)) so_far ∙ filled_rest f (j + 1) xs₀ (j + 1) (omega arith) in
      fill_next f (j + 1) xs₀ xs so_far v room (e ∙ simp (behind, here) (sym (greatest_turn (entries_of xs₀) j)))

-- ---- downwards

-- the pressures under j, and the least from there on
abbrev pub swept : List Float → ℕ → ℕ → ℕ → Float
swept xs c j i = cond (ltb i j) (entries_of xs i) (least (entries_of xs) c i)

pub down_start : (xs : List Float) (c : ℕ) → xs ≡ filled (swept xs c c) (c + 1) xs
down_start xs c = sym (filled_own (swept xs c c) (c + 1) xs (λ i h. by (ltb i c)
    (λ t. simp t)
    (λ t. let last : i ≡ c = omega (arith, ltb-false i c t) in simp t (rw last (least_end (entries_of xs) c)))))

module _ (xs₀ xs : List Float) (c k : ℕ) (inside : k < c) (room : c < length xs₀) (so_far : xs ≡ filled (swept xs₀ c (k + 1)) (c + 1) xs₀) where
  entry : (i : ℕ) → i ≤ c → entries_of xs i ≡ swept xs₀ c (k + 1) i
  entry i h = ap (λ (ys : List Float). entries_of ys i) so_far ∙ filled_entry (swept xs₀ c (k + 1)) (c + 1) xs₀ i (omega arith) (omega arith)

  other : (i : ℕ) → (i ≡ k → ⊥) → swept xs₀ c (k + 1) i ≡ swept xs₀ c k i
  other i n = by (ltb i k)
      (λ t. simp (t, lt-ltb i (k + 1) (omega (arith, ltb-true i k t))))
      (λ t. simp (t, le-ltb i (k + 1) (beyond (ltb-false i k t))))
    where
      beyond : k ≤ i → k + 1 ≤ i
      beyond h = by (ltb k i) (λ t. omega (arith, ltb-true k i t)) (λ t. absurd (n (omega (arith, ltb-false k i t))))

  pub down_next : (v : Float) → v ≡ lesser_of (entries_of xs k) (entries_of xs (k + 1)) → set xs k v ≡ filled (swept xs₀ c k) (c + 1) xs₀
  down_next v e =
      let here : entries_of xs k ≡ entries_of xs₀ k = entry k (omega arith) ∙ simp (lt-ltb k (k + 1) (omega arith)) in
      let behind : entries_of xs (k + 1) ≡ least (entries_of xs₀) c (k + 1) = entry (k + 1) (omega arith) ∙ simp (le-ltb (k + 1) (k + 1) (omega arith)) in
      let worked : v ≡ swept xs₀ c k k = e ∙ simp (here, behind, le-ltb k k (omega arith)) (sym (least_turn (entries_of xs₀) c k inside)) in
      ap (λ (ys : List Float). set ys k v) so_far ∙ filled_set (swept xs₀ c (k + 1)) (swept xs₀ c k) (c + 1) k v xs₀ (omega arith) worked other

pub down_end : (xs : List Float) (c : ℕ) → filled (swept xs c 0) (c + 1) xs ≡ filled (least (entries_of xs) c) (c + 1) xs
down_end xs c = filled_same (swept xs c 0) (least (entries_of xs) c) (c + 1) xs (λ i h. simp (le-ltb i 0 (omega arith)))
