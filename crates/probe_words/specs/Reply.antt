-- What a question of the probe gets beside its code: a number's bits, or a search's word as a number; a refusal has neither.
use Rattle.std.specs.Prelude.{ℕ, Float, Result, Ok, Err}
use Rattle.std.specs.Float.{binary64}
use Rattle.std.specs.Float.Ieee.{to_bits}
use Rattle.refusals.specs.declared.Refusal.{Refusal}
use Rattle.refusals.specs.Answer.{Answer}
use Rattle.fluids.specs.declared.Fluid.{Fluid}
use Rattle.fluids.specs.Entries.{entry_of}
use Rattle.inputs.specs.Numbered.{by_name}
use Rattle.search.specs.declared.Side.{Side}
use Rattle.search.specs.declared.Found.{Found}
use Rattle.density.specs.Calls.{plain_of}
use Rattle.outcomes.specs.Parts.{word_number_of}

-- a number as its bits
abbrev pub number_reply : Answer → Result ℕ Refusal
number_reply (Ok x) = Ok (to_bits binary64 x)
number_reply (Err r) = Err r

-- the word of a search as its number: 1 fluid, 2 vapour, 3 liquid
abbrev pub word_reply : Result Found Refusal → Result ℕ Refusal
word_reply (Ok found) = Ok (word_number_of found.word)
word_reply (Err r) = Err r

-- the word of the plain search up to the own top of the fluid that is named; 17 where none is
unfoldable pub plain_word : Result Fluid Refusal → Side → Float → Float → Result ℕ Refusal
plain_word named side T P = by_name Err named (λ F. word_reply (plain_of F T P (entry_of F).top_cells side))
