-- The C call answers every record that it permits: where the reading, its two numbers and the room in the output are granted, the
-- code is 0. So a record's code can only be 0, 1, 2, 3, 4, 5, 7, 14 or 15, and with room in the output not 7.
use mathlib.Core.Path.{◌≡◌, refl, ap, subst, sym}
use mathlib.Core.Logic.{inl, inr}
use mathlib.Core.List.{List, [], ◌∷◌}
use mathlib.Core.Bool.{Bool, true, false, cond}
use Prim.Native.Nat.{ℕ, ◌≤◌, ◌<◌}
use native.Mathlib.Omega.{arith}
use borrow.Author.Tests.{le-leb, ltb-true}
use lib.Dec.{T, leb, ltb, eqb}
use lib.ListN.{length}
use lib.Ieee.{Float}
use Rattle.std.specs.Prelude.{Option, Some, None, Result, Ok, Err}
use Rattle.refusals.specs.declared.Refusal.{Refusal}
use Rattle.refusals.specs.declared.Refusal.TheVariants.{TooShort, UnknownMark, CutShort}
use Rattle.refusals.specs.Answer.{Permit, Answer}
use Rattle.refusals.specs.Code.{code_of, answer_code_of}
use Rattle.refusals.specs.Order.{tested_of, permitted}
use Rattle.fluids.specs.declared.Fluid.{Fluid}
use Rattle.fluids.specs.Entries.{entry_of, fluid_lettered}
use Rattle.std.specs.List.{list_all}
use Rattle.records.specs.declared.Kind.{Kind}
use Rattle.records.specs.declared.Kind.TheVariants.{Density, FromBelow, FromAbove, NoSide, NoReading}
use Rattle.questions.specs.declared.Question.{Question}
use Rattle.questions.specs.declared.Question.TheVariants.{State, Search}
use Rattle.outcomes.specs.Codes.{found_answer_of}
use Rattle.records.specs.Record.{kind_lettered, numbers_of, by_kind, of_fluid, by_fluid, marked_of, record_of}
use Rattle.records.proofs.RoundTrip.{unlettered}
use Rattle.questions.specs.Asked.{asked_by, asked_of, question_of, density_at, work_of}
use Rattle.questions.specs.Call.{inputs_of, permit_of, call_of, call_code}
use Rattle.refusals.specs.Code.{OneOf}
use Rattle.inputs.specs.Inputs.{state_tests, asked_tests, state_permit, asked_permit, search_permit}
use Rattle.bounds.specs.Records.{RecordCalls}
use Rattle.intervals.proofs.Fractions.{is_true}
use Rattle.inputs.proofs.Passed.{top_permitted}
use Rattle.bounds.proofs.Among.{each_of}
use Rattle.bounds.proofs.NeverTwelve.{pressure_answered}
use Rattle.bounds.proofs.Searches.{every_question_answered}
use Rattle.refusals.proofs.Apart.{ok≢err}
use Rattle.refusals.proofs.InOrder.{denied_code, one_of_more, by_permit}

-- ---- permitted numbers are those that the calls permit
search_permitted : (F : Fluid) (t P : Float) → asked_permit F t P ≡ Ok tt → search_permit F t P (entry_of F).top_cells true ≡ Ok tt
unfolding asked_permit search_permit
search_permitted F t P ok = simp (top_permitted F) ok

-- ---- so the work has a number
Answered : Answer → Type 0
Answered a = (x : Float) × (a ≡ Ok x)

work_answered : (asked : Result Question Refusal) → inputs_of asked ≡ Ok tt → Answered (work_of asked)
unfolding Answered
work_answered (Ok (State F t ρ)) ok = (_, pressure_answered F t ρ ok)
work_answered (Ok (Search F t P side)) ok =
    let (density, word, e) = every_question_answered F t P side (search_permitted F t P ok) in
    (density, unfold density_at in ap found_answer_of e)
work_answered (Err r) ok = absurd (ok≢err (sym ok))

-- ---- the refusals that a record's permit can deny with
-- its inputs, and the output's room after them
abbrev input_codes : List ℕ
input_codes = 1 ∷ 2 ∷ 3 ∷ 4 ∷ 5 ∷ 14 ∷ 15 ∷ []

abbrev refusal_codes : List ℕ
refusal_codes = 1 ∷ 2 ∷ 3 ∷ 4 ∷ 5 ∷ 7 ∷ 14 ∷ 15 ∷ []

abbrev Listed : List ℕ → Permit → Type 0
Listed codes p = (r : Refusal) → p ≡ Err r → OneOf (code_of r) codes

one_listed : (e : Refusal) → OneOf (code_of e) input_codes → Listed input_codes (Err e)
one_listed e h r d = let same : e ≡ r = cc in subst (λ (x : Refusal). OneOf (code_of x) input_codes) same h

state_listed : (F : Fluid) (t ρ : Float) → Listed input_codes (state_permit F t ρ)
unfolding state_permit
state_listed F t ρ = denied_code input_codes (state_tests F t ρ) tt

asked_listed : (F : Fluid) (t P : Float) → Listed input_codes (asked_permit F t P)
unfolding asked_permit
asked_listed F t P = denied_code input_codes (asked_tests F t P) tt

kind_listed : (F : Fluid) (kind : Kind) (t x : Float) → Listed input_codes (inputs_of (asked_by F kind t x))
kind_listed F Density t x = state_listed F t x
kind_listed F FromBelow t x = asked_listed F t x
kind_listed F FromAbove t x = asked_listed F t x
kind_listed F NoSide t x = asked_listed F t x
kind_listed F NoReading t x = one_listed Refusal.NoReading (inl refl)

-- a mark that is known, or 14: no fluid, or no kind, has the letter
unknown_listed : Listed input_codes (Err UnknownMark)
unknown_listed = one_listed UnknownMark (inr (inr (inr (inr (inr (inl refl))))))

by_kind_listed : (named : Result Kind Refusal) → ((r : Refusal) → named ≡ Err r → r ≡ UnknownMark) → (F : Fluid) (s : List ℕ) → Listed input_codes (inputs_of (asked_of (by_kind named F s)))
unfolding numbers_of
by_kind_listed (Ok kind) only F s = kind_listed F kind _ _
by_kind_listed (Err r) only F s = rw (only r refl) unknown_listed

by_fluid_listed : (named : Option Fluid) (s : List ℕ) → Listed input_codes (inputs_of (asked_of (by_fluid named s)))
unfolding of_fluid
by_fluid_listed (Some F) s = by_kind_listed (kind_lettered _) (λ r e. unlettered _ e) F s
by_fluid_listed None s = unknown_listed

-- 15 where the record has not its 18 bytes
question_listed : (s : List ℕ) → Listed input_codes (inputs_of (question_of s))
unfolding question_of record_of
question_listed s = go (eqb (length s) 18)
  where
    go : (whole : Bool) → Listed input_codes (inputs_of (asked_of (cond whole (marked_of s) (Err CutShort))))
    go true = unfold marked_of in by_fluid_listed (fluid_lettered _) s
    go false = one_listed CutShort (inr (inr (inr (inr (inr (inr (inl refl)))))))

room_listed : (p : Permit) (room : ℕ) → Listed input_codes p → Listed refusal_codes (tested_of p (leb 8 room) TooShort)
room_listed (Ok _) room ok = denied_code refusal_codes ((leb 8 room, TooShort) ∷ []) tt
room_listed (Err e) room ok = λ r d. one_of_more input_codes refusal_codes tt (code_of r) (ok r d)

with_room_listed : (p : Permit) (room : ℕ) → 8 ≤ room → Listed input_codes p → Listed input_codes (tested_of p (leb 8 room) TooShort)
with_room_listed (Ok _) room h ok r d = absurd (ok≢err (simp (le-leb 8 room h) at d))
with_room_listed (Err e) room h ok r d = ok r d

-- the room is asked for after the inputs
inputs_granted : (p : Permit) (room : ℕ) → tested_of p (leb 8 room) TooShort ≡ Ok tt → p ≡ Ok tt
inputs_granted (Ok _) room ok = refl
inputs_granted (Err r) room ok = ok

-- ---- the call
code_where_granted : (p : Permit) (a : Answer) → (p ≡ Ok tt → Answered a) → p ≡ Ok tt → answer_code_of (permitted p a) ≡ 0
unfolding Answered
code_where_granted p a work g = let (x, e) = work g in rw (g, e)

-- 0 is no refusal's number
above_0 : (codes : List ℕ) → T (list_all (ltb 0) codes) → (n : ℕ) → OneOf n codes → 0 < n
above_0 codes ok n h = ltb-true 0 n (is_true (ltb 0 n) (each_of (ltb 0) codes ok n h))

module _ (s out : List ℕ) where
  permit : Permit
  permit = permit_of (question_of s) (length out)

  answered_there : permit ≡ Ok tt → Answered (work_of (question_of s))
  unfolding permit permit_of
  answered_there g = work_answered (question_of s) (inputs_granted (inputs_of (question_of s)) (length out) g)

  permit_listed : Listed refusal_codes permit
  unfolding permit permit_of
  permit_listed = room_listed (inputs_of (question_of s)) (length out) (question_listed s)

  permit_with_room : 8 ≤ length out → Listed input_codes permit
  unfolding permit permit_of
  permit_with_room h = with_room_listed (inputs_of (question_of s)) (length out) h (question_listed s)

  call_code_lem : (codes : List ℕ) → Listed codes permit → OneOf (call_code s out) (0 ∷ codes)
  unfolding permit call_code call_of
  call_code_lem codes listed =
      by_permit permit
      (λ g. inl (code_where_granted permit (work_of (question_of s)) answered_there g))
      (λ r d. inr (subst (λ (p : Permit). OneOf (answer_code_of (permitted p (work_of (question_of s)))) codes) (sym d) (listed r d)))

  granted_by_code : call_code s out ≡ 0 → permit ≡ Ok tt
  unfolding permit call_code call_of
  granted_by_code e = by_permit permit (λ g. g) (λ r d. let positive = above_0 refusal_codes tt (code_of r) (permit_listed r d) in let zero : code_of r ≡ 0 = rw d at e in absurd (omega arith))

pub record_calls : RecordCalls
unfolding permit call_code call_of
record_calls = record {
  answered = λ s out. (granted_by_code s out, code_where_granted (permit s out) (work_of (question_of s)) (answered_there s out));
  code = λ s out. call_code_lem s out refusal_codes (permit_listed s out);
  code_with_room = λ s out h. call_code_lem s out input_codes (permit_with_room s out h);
}
