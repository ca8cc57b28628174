-- 01, "The program `answers`": a header, then a line for each record: its number from 1, its mark, the code, and the bits, one
-- space between fields.
use Rattle.std.specs.Prelude.{Bool, cond, ◌&&◌, List, [], ◌∷◌, ◌++◌, ℕ, zero, suc, ◌+◌, ◌/◌, ◌^◌, ◌<◌, ltb, length, Result, Ok, Err}
use Rattle.std.specs.Float.{binary64}
use Rattle.std.specs.Float.Ieee.{to_bits}
use Rattle.refusals.specs.declared.Refusal.{Refusal}
use Rattle.refusals.specs.declared.Refusal.TheVariants.{CutShort}
use Rattle.refusals.specs.Answer.{Answer}
use Rattle.refusals.specs.Code.{answer_code_of}
use Rattle.words.specs.Word.{byte_at}
use Rattle.records.specs.declared.Record.{Record}
use Rattle.lines.specs.Letters.{bytes}
use Rattle.records.specs.Record.{record_of}
use Rattle.questions.specs.Asked.{answer_of}
use Rattle.records.specs.Run.{record_count, gathered}
use Rattle.lines.specs.Text.{digits_of, decimal_of}

unfoldable pub header_text : List ℕ
header_text = bytes "n mark code bits\n"

-- the two letters in front of a record
abbrev pub letters : List ℕ → List ℕ
letters s = byte_at s 0 ∷ byte_at s 1 ∷ []

-- its mark; ?? if unknown, -- if cut
abbrev pub mark_of : Result Record Refusal → List ℕ → List ℕ
mark_of (Ok marked) s = letters s
mark_of (Err CutShort) s = bytes "--"
mark_of (Err r) s = bytes "??"

unfoldable pub mark_text : List ℕ → List ℕ
mark_text s = mark_of (record_of s) s

-- k dashes
unfoldable pub dashes : ℕ → List ℕ
dashes zero = []
dashes (suc k) = dashes k ++ bytes "-"

-- 16 lower-case hex digits of the bits, highest first, or 16 dashes
abbrev pub bits_text : Answer → List ℕ
bits_text (Ok x) = digits_of 16 16 (to_bits binary64 x)
bits_text (Err r) = dashes 16

-- a field and the space after it
abbrev pub spaced : List ℕ → List ℕ
spaced field = field ++ bytes " "

-- the code and the bits
unfoldable pub answer_text : Answer → List ℕ
answer_text a = spaced (decimal_of (answer_code_of a)) ++ bits_text a

-- the line of the record s with the number n
unfoldable pub line_of : ℕ → List ℕ → List ℕ
line_of n s = ((spaced (decimal_of n) ++ spaced (mark_text s)) ++ answer_text (answer_of s)) ++ bytes "\n"

-- ---- files

-- the lines of the first k records of s, numbered from first on
unfoldable pub lines_up_to : ℕ → List ℕ → ℕ → List ℕ
lines_up_to first s k = gathered (λ j t. line_of (first + j) t) s k

unfoldable pub lines_of : ℕ → List ℕ → List ℕ
lines_of first s = lines_up_to first s (record_count s)

-- what the program prints for a file
unfoldable pub text_of : List ℕ → List ℕ
text_of s = header_text ++ lines_of 1 s

-- ---- a block of records into an output

-- 64 bytes for each whole record of s and 64 more, and numbers below 2⁶⁴
unfoldable pub lines_fit : ℕ → List ℕ → List ℕ → Bool
lines_fit first s out = ltb (length s / 18) (length out / 64) && ltb (first + length s) (2 ^ 64)

-- the same as a fact
abbrev pub LinesFit : ℕ → List ℕ → List ℕ → Type 0
LinesFit first s out = (length s / 18 < length out / 64) × (first + length s < 18446744073709551616)

-- all the lines where they fit, and else none
unfoldable pub lines_put : ℕ → List ℕ → List ℕ → List ℕ
lines_put first s out = cond (lines_fit first s out) (lines_of first s) []
