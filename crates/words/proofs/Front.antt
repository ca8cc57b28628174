-- A word is that of the first eight bytes alone.
use mathlib.Core.Path.{◌≡◌}
use mathlib.Core.List.{List}
use Prim.Native.Nat.{ℕ, ◌<◌}
use native.Mathlib.Omega.{arith}
use lib.ListN.{take, get_or}
use lib.Seq.{get_or-take}
use Rattle.words.specs.Word.{word_of}

pub word_front : (s : List ℕ) → word_of (take 8 s) ≡ word_of s
word_front s =
    let byte : (k : ℕ) → k < 8 → get_or (take 8 s) k 0 ≡ get_or s k 0 = λ k h. get_or-take 8 s k 0 h in
    simp (
      byte 0 (omega arith),
      byte 1 (omega arith),
      byte 2 (omega arith),
      byte 3 (omega arith),
      byte 4 (omega arith),
      byte 5 (omega arith),
      byte 6 (omega arith),
      byte 7 (omega arith),
    )
