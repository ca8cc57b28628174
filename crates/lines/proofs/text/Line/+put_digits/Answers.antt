-- `put_digits` meets its contract: the higher digits of what the base divides, then the last.
use mathlib.Core.Path.{◌≡◌, sym}
use mathlib.Core.List.{List, [], ◌∷◌, ◌++◌, append_assoc, append-nil}
use native.Mathlib.Omega.{arith}
use native.Mathlib.Numerals.{sub-one}
use Prim.Native.Nat.{ℕ, zero, suc, ◌-◌, ◌/◌, ◌%◌, ◌<◌}
use lib.ListN.{length-append}
use Rattle.lines.specs.Text.{glyph_of, digits_of}
use Rattle.lines.proofs.Digits.{digits_length}
use Rattle.lines.proofs.text.Line.+put_digits.Goals as goal

no_digit : (b k n : ℕ) (s : List ℕ) → k ≡ 0 → s ≡ s ++ digits_of b k n
unfolding digits_of
no_digit b zero n s e = sym (append-nil s)
no_digit b (suc k) n s e = absurd (omega arith)

last_digit : (b k n : ℕ) → 0 < k → digits_of b (k - 1) (n / b) ++ (glyph_of (n % b) ∷ []) ≡ digits_of b k n
unfolding digits_of
last_digit b zero n h = absurd (omega arith)
last_digit b (suc k) n h = simp sub-one

pub put_byte-requires : goal.put_byte-requires
put_byte-requires t c = rw c.put_digits.ensures (simp (length-append, digits_length) (omega arith))

pub returns-then-k-gt0 : goal.returns-then-k-gt0
returns-then-k-gt0 t c =
    let last = last_digit c.args.base c.args.k c.args.n (omega arith) in
    simp (c.put_byte.ensures, c.put_digits.ensures, c.glyph.ensures, append_assoc, last)

pub returns-else-k-gt0 : goal.returns-else-k-gt0
returns-else-k-gt0 t c = no_digit c.args.base c.args.k c.args.n c.args.self.now (omega arith)
