-- A list that is filled from the front with what a map makes of the entries of another of the same length.
use mathlib.Core.Path.{◌≡◌, sym, ◌∙◌, ap}
use mathlib.Core.List.{List, [], ◌∷◌, ◌++◌, map}
use Prim.Native.Nat.{ℕ, ◌+◌, ◌<◌}
use native.Mathlib.Numerals.{add-one}
use lib.ListN.{length, take, get_or, set, length-set, length-map, get_or-map}
use lib.Seq.{take-suc, take-suc-set}

-- the first i places of xs are those of ys
pub record Filled {B : Type 0} (ys : List B) (i : ℕ) (xs : List B) : Type 0 where
  pub same : length xs ≡ length ys
  pub front : take i xs ≡ take i ys

module _ {A B : Type 0} (f : A → B) (ts : List A) (xs : List B) where
  pub one_filled : (i : ℕ) (v : B) (d : A) → Filled (map f ts) i xs → i < length ts → v ≡ f (get_or ts i d) → Filled (map f ts) (i + 1) (set xs i v)
  one_filled i v d w h e = record {
    same = length-set xs i v ∙ w.same;
    front =
        let room : i < length (map f ts) = rw length-map h in
        rw add-one
        (take-suc-set xs i v (rw w.same room)
        ∙ ap (λ (l : List B). l ++ (v ∷ [])) w.front
        ∙ ap (λ (z : B). take i (map f ts) ++ (z ∷ [])) (e ∙ sym (get_or-map f ts i d))
        ∙ sym (take-suc (map f ts) i (f d) room));
  }
