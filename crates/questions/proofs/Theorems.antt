-- What follows of the C call and of the lines from their definitions, for readers who want 01's sentences one by one.
use mathlib.Core.Path.{◌≡◌, refl, sym, ◌∙◌, ap}
use mathlib.Core.Bool.{Bool, true, false}
use mathlib.Core.List.{List}
use Prim.Native.Nat.{ℕ, ◌≤◌, ◌<◌}
use borrow.Author.Tests.{le-leb, lt-leb, leb-true, leb-false}
use lib.Dec.{leb}
use lib.Ieee.{Float, binary64, to_bits}
use lib.ListN.{length, drop}
use lib.Seq.{drop_at}
use Rattle.std.specs.Prelude.{Result, Ok, Err}
use Rattle.refusals.specs.declared.Refusal.{Refusal}
use Rattle.refusals.specs.declared.Refusal.TheVariants.{TooShort}
use Rattle.refusals.specs.Answer.{Permit}
use Rattle.refusals.specs.Answer.{Answer}
use Rattle.refusals.specs.Code.{answer_code_of}
use Rattle.refusals.specs.Order.{tested_of, permitted}
use Rattle.words.specs.Word.{bytes_of, with_word}
use Rattle.words.proofs.Written.{bytes_length, word_written, word_not_written}
use Rattle.arithmetic.specs.Answered.{answer_from}
use Rattle.fluids.specs.declared.Fluid.{Fluid}
use Rattle.fluids.specs.Entries.{entry_of}
use Rattle.equation.specs.State.{state_at, pressure_value}
use Rattle.properties.specs.Calls.{pressure_of, worked_density}
use Rattle.search.specs.declared.Side.{Side}
use Rattle.search.specs.declared.Found.{Found}
use Rattle.density.specs.State.{found_state_of}
use Rattle.steps.specs.Steps.{pressures_of}
use Rattle.density.specs.Calls.{plain_step_of, searched, plain_of}
use Rattle.questions.specs.declared.Question.{Question}
use Rattle.questions.specs.declared.Question.TheVariants.{State, Search}
use Rattle.outcomes.specs.Codes.{found_answer_of}
use Rattle.inputs.proofs.Passed.{top_permitted}
use Rattle.inputs.specs.Inputs.{state_permit, asked_permit, search_permit}
use Rattle.questions.specs.Asked.{question_of, density_at, work_of, answer_of}
use Rattle.questions.specs.Call.{inputs_of, permit_of, call_of, output_of, call_code, call_output}

-- ---- the tests before the work are the work's own

twice : (p : Permit) (a : Answer) → permitted p (permitted p a) ≡ permitted p a
twice (Ok _) a = refl
twice (Err r) a = refl

found_permitted : (p : Permit) (found : Result Found Refusal) → found_answer_of (searched p found) ≡ permitted p (found_answer_of found)
found_permitted (Ok _) found = refl
found_permitted (Err r) found = refl

-- at the top the search has no more to ask of its inputs than the record
search_inputs : (F : Fluid) (T P : Float) → search_permit F T P (entry_of F).top_cells true ≡ asked_permit F T P
unfolding search_permit asked_permit
search_inputs F T P = simp (top_permitted F)

module _ (F : Fluid) (T : Float) where
  state_work : (ρ : Float) → permitted (inputs_of (Ok (State F T ρ))) (pressure_of F T ρ) ≡ pressure_of F T ρ
  unfolding pressure_of
  state_work ρ = twice (state_permit F T ρ) (answer_from (pressure_value (state_at F T (worked_density ρ))))

  module _ (P : Float) (side : Side) where
    found : Result Found Refusal
    found = found_state_of F T (plain_step_of side (pressures_of F T) P (entry_of F).top_cells)

    density_is : density_at F T P side ≡ permitted (inputs_of (Ok (Search F T P side))) (found_answer_of found)
    unfolding density_at plain_of found
    density_is =
        found_permitted (search_permit F T P (entry_of F).top_cells true) found
        ∙ ap (λ (p : Permit). permitted p (found_answer_of found)) (search_inputs F T P)

    search_work : permitted (inputs_of (Ok (Search F T P side))) (density_at F T P side) ≡ density_at F T P side
    search_work =
        let p = inputs_of (Ok (Search F T P side)) in
        ap (permitted p) density_is ∙ twice p (found_answer_of found) ∙ sym density_is

work_permitted : (asked : Result Question Refusal) → permitted (inputs_of asked) (work_of asked) ≡ work_of asked
work_permitted (Ok (State F T ρ)) = state_work F T ρ
work_permitted (Ok (Search F T P side)) = search_work F T P side
work_permitted (Err r) = refl

-- ---- the room

room_last : (p : Permit) (room : ℕ) (a : Answer) → 8 ≤ room → permitted (tested_of p (leb 8 room) TooShort) a ≡ permitted p a
room_last (Ok _) room a h = simp (le-leb 8 room h)
room_last (Err r) room a h = refl

-- with room for the number, the call answers what the program prints
pub with_room : (s : List ℕ) (room : ℕ) → 8 ≤ room → call_of s room ≡ answer_of s
unfolding call_of permit_of answer_of
with_room s room h = room_last (inputs_of (question_of s)) room (work_of (question_of s)) h ∙ work_permitted (question_of s)

no_room : (p : Permit) (room : ℕ) (a : Answer) → room < 8 → permitted (tested_of p (leb 8 room) TooShort) a ≡ permitted p (Err TooShort)
no_room (Ok _) room a h = simp (lt-leb 8 room h)
no_room (Err r) room a h = refl

-- without, it answers 7 unless 15, 14, 1, 2, 3, 4 or 5 comes before
pub without_room : (s : List ℕ) (room : ℕ) → room < 8 → call_of s room ≡ permitted (inputs_of (question_of s)) (Err TooShort)
unfolding call_of permit_of
without_room s room h = no_room (inputs_of (question_of s)) room (work_of (question_of s)) h

-- ---- the output

output_refused : (a : Answer) (out : List ℕ) → (answer_code_of a ≡ 0 → ⊥) → output_of a out ≡ out
output_refused (Ok x) out h = absurd (h refl)
output_refused (Err r) out h = refl

-- a refused call leaves the output as it was
pub refused_unchanged : (s out : List ℕ) → (call_code s out ≡ 0 → ⊥) → call_output s out ≡ out
unfolding call_code call_output
refused_unchanged s out h = output_refused (call_of s (length out)) out h

word_tail : (w : ℕ) (out : List ℕ) → drop 8 (with_word w out) ≡ drop 8 out
word_tail w out = go (leb 8 (length out)) refl
  where
    go : (b : Bool) → leb 8 (length out) ≡ b → drop 8 (with_word w out) ≡ drop 8 out
    go true e = ap (drop 8) (word_written w out (leb-true 8 (length out) e)) ∙ drop_at (bytes_of w) (drop 8 out) 8 (bytes_length w)
    go false e = ap (drop 8) (word_not_written w out (leb-false 8 (length out) e))

output_tail : (a : Answer) (out : List ℕ) → drop 8 (output_of a out) ≡ drop 8 out
output_tail (Ok x) out = word_tail (to_bits binary64 x) out
output_tail (Err r) out = refl

-- output bytes after the eighth never change
pub after_the_eighth : (s out : List ℕ) → drop 8 (call_output s out) ≡ drop 8 out
unfolding call_output
after_the_eighth s out = output_tail (call_of s (length out)) out
