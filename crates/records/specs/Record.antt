-- 01, "Marked records", and 02, M-103: a record of 18 bytes as it is written and as it is read: a two-byte mark and two binary64
-- numbers as bits, little-endian.
use Rattle.std.specs.Prelude.{Bool, true, false, cond, List, [], ◌∷◌, ◌++◌, ℕ, eqb, leb, length, drop, Option, Some, None, Result, Ok, Err}
use Prim.Native.Char.{code}
use Rattle.refusals.specs.declared.Refusal.{Refusal}
use Rattle.refusals.specs.declared.Refusal.TheVariants.{UnknownMark, CutShort}
use Rattle.words.specs.Word.{byte_at, word_of, bytes_of}
use Rattle.fluids.specs.declared.Fluid.{Fluid}
use Rattle.fluids.specs.Entries.{letter_of, fluid_lettered}
use Rattle.records.specs.declared.Kind.{Kind}
use Rattle.records.specs.declared.Kind.TheVariants.{Density, FromBelow, FromAbove, NoSide, NoReading}
use Rattle.records.specs.declared.Record.{Record}

-- ---- the mark: its first letter is the fluid's (`letter_of`), its second the kind's

-- D temperature and density; B and A temperature and pressure, from below and from above; P the same with no side given; N no
-- reading
unfoldable pub kind_letter : Kind → ℕ
kind_letter Density = code "D"
kind_letter FromBelow = code "B"
kind_letter FromAbove = code "A"
kind_letter NoSide = code "P"
kind_letter NoReading = code "N"

-- the kind by that letter; another is 14
unfoldable pub kind_lettered : ℕ → Result Kind Refusal
kind_lettered b =
    cond (eqb b (kind_letter Density)) (Ok Density)
    (cond (eqb b (kind_letter FromBelow)) (Ok FromBelow)
    (cond (eqb b (kind_letter FromAbove)) (Ok FromAbove)
    (cond (eqb b (kind_letter NoSide)) (Ok NoSide)
    (cond (eqb b (kind_letter NoReading)) (Ok NoReading) (Err UnknownMark)))))

-- the two letters
unfoldable pub mark_of : Kind → Fluid → List ℕ
mark_of kind F = letter_of F ∷ kind_letter kind ∷ []

-- ---- the numbers

-- a no-reading record carries none
abbrev pub carries_numbers : Kind → Bool
carries_numbers Density = true
carries_numbers FromBelow = true
carries_numbers FromAbove = true
carries_numbers NoSide = true
carries_numbers NoReading = false

-- the word that a record of the kind has for w: its sixteen bytes are not looked at, and written as zeros, where it carries no
-- numbers
unfoldable pub carried : Kind → ℕ → ℕ
carried kind w = cond (carries_numbers kind) w 0

-- ---- as it is written

-- the 18 bytes: the mark, then the two words
unfoldable pub layout_of : Kind → Fluid → ℕ → ℕ → List ℕ
layout_of kind F x y = mark_of kind F ++ (bytes_of (carried kind x) ++ bytes_of (carried kind y))

-- s with these in its first 18 places, and s itself where it is shorter
unfoldable pub with_record : Kind → Fluid → ℕ → ℕ → List ℕ → List ℕ
with_record kind F x y s = cond (leb 18 (length s)) (layout_of kind F x y ++ drop 18 s) s

-- ---- as it is read

-- a known mark, by its second letter and its first, and two words
abbrev pub marked : Kind → Fluid → ℕ → ℕ → Record
marked kind F x y = record { kind = kind; fluid = F; first = x; second = y }

-- the two words after the mark
unfoldable pub numbers_of : Kind → Fluid → List ℕ → Record
numbers_of kind F s = marked kind F (carried kind (word_of (drop 2 s))) (carried kind (word_of (drop 10 s)))

-- by the mark's second letter
abbrev pub by_kind : Result Kind Refusal → Fluid → List ℕ → Result Record Refusal
by_kind (Ok kind) F s = Ok (numbers_of kind F s)
by_kind (Err r) F s = Err r

unfoldable pub of_fluid : Fluid → List ℕ → Result Record Refusal
of_fluid F s = by_kind (kind_lettered (byte_at s 1)) F s

-- by its first letter; another is 14
abbrev pub by_fluid : Option Fluid → List ℕ → Result Record Refusal
by_fluid (Some F) s = of_fluid F s
by_fluid None s = Err UnknownMark

unfoldable pub marked_of : List ℕ → Result Record Refusal
marked_of s = by_fluid (fluid_lettered (byte_at s 0)) s

-- a record has exactly 18 bytes: 15 where there are more or less
unfoldable pub record_of : List ℕ → Result Record Refusal
record_of s = cond (eqb (length s) 18) (marked_of s) (Err CutShort)
