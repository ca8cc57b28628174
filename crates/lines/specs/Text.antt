-- Text as bytes: numbers in decimal and in hexadecimal digits, and a text put at a place of a list.
use Rattle.std.specs.Prelude.{◌≡◌, cond, List, [], ◌∷◌, ◌++◌, ℕ, zero, suc, ◌+◌, ◌/◌, ◌%◌, ltb, length}
use Rattle.words.specs.Word.{placed}

-- a digit below 16: `0` to `9`, then `a` to `f`
unfoldable pub glyph_of : ℕ → ℕ
glyph_of d = cond (ltb d 10) (48 + d) (87 + d)

-- the last k digits of n in base b, the highest first
unfoldable pub digits_of : ℕ → ℕ → ℕ → List ℕ
digits_of b zero n = []
digits_of b (suc k) n = digits_of b k (n / b) ++ (glyph_of (n % b) ∷ [])

-- how many decimal digits n has, at most k + 1
unfoldable pub width_of : ℕ → ℕ → ℕ
width_of zero n = 1
width_of (suc k) n = cond (ltb n 10) 1 (suc (width_of k (n / 10)))

-- n in decimal; a number below 2⁶⁴ has at most 20 digits
unfoldable pub decimal_of : ℕ → List ℕ
decimal_of n = digits_of 10 (width_of 19 n) n

-- the text was put into s from the place at on: it ends before the place end, and s became now
pub record Put (at : ℕ) (text s : List ℕ) (end : ℕ) (now : List ℕ) : Type 0 where
  pub ends : end ≡ at + length text
  pub whole : now ≡ placed at text s
