-- The pieces of w bytes of a list that is put together of two, the first of whole pieces: those of the first, and then those of the second.
use mathlib.Core.Path.{◌≡◌, sym, ◌∙◌, ap}
use mathlib.Core.List.{List, ◌++◌}
use Prim.Native.Nat.{ℕ, ◌+◌, ◌*◌, ◌≤◌}
use native.Mathlib.Omega.{arith}
use native.Mathlib.Nat.{mul-add}
use lib.ListN.{length, take, drop, length-drop}
use lib.Seq.{take-append-le, drop-append-le, drop-drop, drop_at}

module _ (w : ℕ) (a b : List ℕ) where
  pub piece_before : (k : ℕ) → w * k + w ≤ length a → take w (drop (w * k) (a ++ b)) ≡ take w (drop (w * k) a)
  piece_before k h =
      let inside : w * k ≤ length a = omega arith in
      let whole : w ≤ length (drop (w * k) a) = rw length-drop (omega arith) in
      ap (take w) (drop-append-le (w * k) a b inside) ∙ take-append-le w (drop (w * k) a) b whole

  pub piece_after : (m : ℕ) → length a ≡ w * m → (k : ℕ) → take w (drop (w * (m + k)) (a ++ b)) ≡ take w (drop (w * k) b)
  piece_after m whole k =
      ap (take w)
      (ap (λ (n : ℕ). drop n (a ++ b)) (mul-add w m k) ∙ sym (drop-drop (w * k) (w * m) (a ++ b)) ∙ ap (drop (w * k)) (drop_at a b (w * m) whole))
