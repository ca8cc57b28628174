-- How long the fields of a line are: a line has at most 64 bytes.
use mathlib.Core.Path.{◌≡◌, refl}
use mathlib.Core.List.{List, [], ◌∷◌, ◌++◌}
use Prim.Native.Nat.{ℕ, zero, suc, ◌+◌, ◌≤◌}
use native.Mathlib.Omega.{arith}
use lib.Ieee.{binary64, to_bits}
use lib.ListN.{length, length-append}
use Rattle.std.specs.Prelude.{Result, Ok, Err}
use Rattle.refusals.specs.declared.Refusal.{Refusal}
use Rattle.refusals.specs.declared.Refusal.TheVariants.{CutShort}
use Rattle.refusals.specs.Answer.{Answer}
use Rattle.refusals.specs.Code.{answer_code_of}
use Rattle.records.specs.declared.Record.{Record}
use Rattle.records.specs.Record.{record_of}
use Rattle.questions.specs.Asked.{answer_of}
use Rattle.lines.specs.Text.{decimal_of}
use Rattle.lines.specs.Lines.{mark_of, mark_text, dashes, bits_text, spaced, answer_text, line_of}
use Rattle.lines.proofs.Digits.{digits_length, decimal_small}

letters_length : (r : Result Record Refusal) (s : List ℕ) → length (mark_of r s) ≡ 2
letters_length (Ok r) s = refl
letters_length (Err CutShort) s = refl
letters_length (Err r) s = refl

pub mark_length : (s : List ℕ) → length (mark_text s) ≡ 2
unfolding mark_text
mark_length s = letters_length (record_of s) s

pub dashes_length : (k : ℕ) → length (dashes k) ≡ k
unfolding dashes
dashes_length zero = refl
dashes_length (suc k) = simp (length-append, dashes_length k) (omega arith)

pub bits_length : (a : Answer) → length (bits_text a) ≡ 16
bits_length (Ok x) = digits_length 16 16 (to_bits binary64 x)
bits_length (Err r) = dashes_length 16

pub spaced_length : (t : List ℕ) → length (spaced t) ≡ length t + 1
spaced_length t = length-append t (32 ∷ [])

pub answer_small : (a : Answer) → length (answer_text a) ≤ 37
unfolding answer_text
answer_small a =
    let code = decimal_of (answer_code_of a) in
    omega (arith, length-append (spaced code) (bits_text a), spaced_length code, decimal_small (answer_code_of a), bits_length a)

pub line_small : (n : ℕ) (s : List ℕ) → length (line_of n s) ≤ 64
unfolding line_of
line_small n s =
    let number = spaced (decimal_of n) in
    let mark = spaced (mark_text s) in
    let answer = answer_text (answer_of s) in
    omega (
      arith,
      length-append ((number ++ mark) ++ answer) (10 ∷ []),
      length-append (number ++ mark) answer,
      length-append number mark,
      spaced_length (decimal_of n),
      spaced_length (mark_text s),
      decimal_small n,
      mark_length s,
      answer_small (answer_of s),
    )
