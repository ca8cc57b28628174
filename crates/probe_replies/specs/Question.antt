-- A question is a call's number and the bits of two numbers; it is replied as the call answers, and 14 where no call has the
-- number.
use Rattle.std.specs.Prelude.{List, [], ◌∷◌, ℕ, ◌/◌, ◌%◌, Float, Result, Err}
use Rattle.std.specs.Float.{binary64}
use Rattle.std.specs.Float.Ieee.{of_bits}
use Rattle.refusals.specs.declared.Refusal.{Refusal}
use Rattle.fluids.specs.declared.Fluid.{Fluid}
use Rattle.fluids.specs.Entries.{entry_of, fluid_numbered}
use Rattle.refusals.specs.Answer.{Answer}
use Rattle.inputs.specs.Numbered.{by_name}
use Rattle.search.specs.declared.Side.{Side}
use Rattle.search.specs.declared.Side.TheVariants.{FromBelow, FromAbove}
use Rattle.density.specs.Calls.{quick_of}
use Rattle.density.specs.Serving.{greatest_at, least_at}
use Rattle.outcomes.specs.Codes.{found_answer_of}
use Rattle.probe_calls.specs.Calls.{look_up, answer_of_numbers}
use Rattle.probe_words.specs.Reply.{number_reply, plain_word}

-- the quick search up to the own top of the fluid that is named, over the lists that a preparation at T leaves; 17 where none is
unfoldable pub quick_answer : Result Fluid Refusal → Side → Float → Float → Answer
quick_answer named side T P =
    by_name Err named
    (λ F. let c = (entry_of F).top_cells in found_answer_of (quick_of F T P c side (greatest_at F T c) (least_at F T c)))

-- the calls over prepared lists
abbrev pub list_calls : Result Fluid Refusal → Float → Float → List (ℕ × Answer)
list_calls named x y = (32, quick_answer named FromBelow x y) ∷ (33, quick_answer named FromAbove x y) ∷ []

-- those over prepared lists, then those of numbers alone; every NaN pattern is handed on as a NaN
unfoldable pub answer_to : ℕ → ℕ → ℕ → Answer
answer_to call first second =
    look_up (call % 100) (list_calls (fluid_numbered (call / 100)) (of_bits binary64 first) (of_bits binary64 second))
    (answer_of_numbers call (of_bits binary64 first) (of_bits binary64 second))

-- the calls for the word of a search
abbrev pub word_calls : Result Fluid Refusal → Float → Float → List (ℕ × Result ℕ Refusal)
word_calls named x y = (34, plain_word named FromBelow x y) ∷ (35, plain_word named FromAbove x y) ∷ []

-- those for a word, then those for a number
unfoldable pub reply_to : ℕ → ℕ → ℕ → Result ℕ Refusal
reply_to call first second =
    look_up (call % 100) (word_calls (fluid_numbered (call / 100)) (of_bits binary64 first) (of_bits binary64 second))
    (number_reply (answer_to call first second))
