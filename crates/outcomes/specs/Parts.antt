-- A search's outcome as numbers, beside its code: the bits of the density, and a number for the word.
use Rattle.std.specs.Prelude.{ℕ, ◌-◌, ◌^◌, Result, Ok, Err}
use Rattle.std.specs.Float.{binary64}
use Rattle.std.specs.Float.Ieee.{to_bits}
use Rattle.refusals.specs.declared.Refusal.{Refusal}
use Rattle.search.specs.declared.Word.{Word}
use Rattle.search.specs.declared.Word.TheVariants.{Fluid, Vapour, Liquid}
use Rattle.search.specs.declared.Found.{Found}

-- the bits of the density; all ones where there is none
abbrev pub found_bits_of : Result Found Refusal → ℕ
found_bits_of (Ok found) = to_bits binary64 found.density
found_bits_of (Err r) = 2 ^ 64 - 1

-- a number for each word
abbrev pub word_number_of : Word → ℕ
word_number_of Fluid = 1
word_number_of Vapour = 2
word_number_of Liquid = 3

-- the word's number; 0 where there is none
abbrev pub found_word_of : Result Found Refusal → ℕ
found_word_of (Ok found) = word_number_of found.word
found_word_of (Err r) = 0
