-- Bytes put at a place of a list: they stand there, and what is before and after them is as it was.
use mathlib.Core.Path.{◌≡◌, refl, sym, ◌∙◌, ap}
use mathlib.Core.List.{List, ◌++◌, append_assoc}
use Prim.Native.Nat.{ℕ, ◌+◌, ◌≤◌}
use native.Mathlib.Omega.{arith}
use lib.ListN.{length, take, drop, length-append, length-drop}
use lib.Seq.{take_at, drop_at, length-take-le}
use Rattle.words.specs.Word.{placed}

module _ (at : ℕ) (t s : List ℕ) (fits : at + length t ≤ length s) where
  front_length : length (take at s) ≡ at
  front_length = length-take-le at s (omega arith)

  -- up to their end
  upto_length : length (take at s ++ t) ≡ at + length t
  upto_length = length-append (take at s) t ∙ ap (λ (k : ℕ). k + length t) front_length

  as_two : placed at t s ≡ (take at s ++ t) ++ drop (at + length t) s
  as_two = sym (append_assoc (take at s) t (drop (at + length t) s))

  pub placed_length : length (placed at t s) ≡ length s
  placed_length =
      ap length as_two ∙ length-append (take at s ++ t) (drop (at + length t) s)
      ∙ simp (upto_length, length-drop) (omega arith)

  pub placed_upto : take (at + length t) (placed at t s) ≡ take at s ++ t
  placed_upto = ap (take (at + length t)) as_two ∙ take_at (take at s ++ t) (drop (at + length t) s) (at + length t) upto_length

  pub placed_before : take at (placed at t s) ≡ take at s
  placed_before = take_at (take at s) (t ++ drop (at + length t) s) at front_length

  pub placed_there : take (length t) (drop at (placed at t s)) ≡ t
  placed_there = ap (take (length t)) (drop_at (take at s) (t ++ drop (at + length t) s) at front_length) ∙ take_at t (drop (at + length t) s) (length t) refl

  pub placed_after : drop (at + length t) (placed at t s) ≡ drop (at + length t) s
  placed_after = ap (drop (at + length t)) as_two ∙ drop_at (take at s ++ t) (drop (at + length t) s) (at + length t) upto_length
