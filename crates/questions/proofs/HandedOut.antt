-- A number that answers a record is finite: never a NaN or an infinity beside the code 0.
use mathlib.Core.Path.{◌≡◌, refl}
use mathlib.Core.Bool.{Bool, true}
use mathlib.Core.List.{List}
use Prim.Native.Nat.{ℕ}
use lib.Dec.{T}
use lib.Ieee.{Float, nan, inf, fin}
use lib.Ieee.Exact.{HasValue}
use lib.Ieee.Scale.{finite}
use Rattle.std.specs.Prelude.{Result, Ok, Err}
use Rattle.refusals.specs.declared.Refusal.{Refusal}
use Rattle.refusals.specs.Answer.{Permit}
use Rattle.refusals.specs.Answer.{Answer}
use Rattle.refusals.specs.Order.{permitted}
use Rattle.arithmetic.specs.Answered.{answer_from}
use Rattle.arithmetic.proofs.Answered.{HandsOutFinite, answer_from_hands_out_finite}
use Rattle.fluids.specs.declared.Fluid.{Fluid}
use Rattle.fluids.specs.Entries.{entry_of}
use Rattle.kept.specs.Kept.{kept_of}
use Rattle.equation.specs.State.{state_at, pressure_value}
use Rattle.kept.proofs.Parts.{kept_fluid}
use Rattle.properties.specs.Calls.{worked_density, pressure_of}
use Rattle.inputs.specs.Inputs.{state_permit}
use Rattle.search.specs.declared.Side.{Side}
use Rattle.steps.specs.Steps.{step_density_of}
use Rattle.inputs.specs.Inputs.{search_permit}
use Rattle.density.specs.State.{found_state_of}
use Rattle.density.specs.Granted.{StepInside}
use Rattle.steps.specs.Steps.{pressures_of}
use Rattle.density.specs.Calls.{plain_step_of, searched, plain_of}
use Rattle.density.proofs.Permitted.{question}
use Rattle.density.proofs.Guarded.{plain_inside}
use Rattle.steps.proofs.StepExact.{step_exact}
use Rattle.questions.specs.declared.Question.{Question}
use Rattle.questions.specs.declared.Question.TheVariants.{State, Search}
use Rattle.outcomes.specs.Codes.{found_answer_of}
use Rattle.questions.specs.Asked.{question_of, density_at, work_of, answer_of}
use Rattle.questions.specs.Call.{permit_of, call_of}

permitted_finite : (p : Permit) (a : Answer) → HandsOutFinite a → HandsOutFinite (permitted p a)
permitted_finite (Ok _) a h = h
permitted_finite (Err r) a h = tt

pressure_finite : (F : Fluid) (T ρ : Float) → HandsOutFinite (pressure_of F T ρ)
unfolding pressure_of
pressure_finite F T ρ =
    let v = pressure_value (state_at F T (worked_density ρ)) in
    permitted_finite (state_permit F T ρ) (answer_from v) (answer_from_hands_out_finite v)

value_finite : (x : Float) (s : Bool) (n d : ℕ) → HasValue x s n d → T (finite x)
value_finite nan s n d h = absurd h
value_finite (inf t) s n d h = absurd h
value_finite (fin t m e) s n d h = tt

place_finite : (F : Fluid) (T : Float) (x : Result ℕ Refusal) → StepInside x → HandsOutFinite (found_answer_of (found_state_of F T x))
unfolding found_state_of
place_finite F T (Ok k) h = value_finite (step_density_of k) _ _ _ (step_exact k h)
place_finite F T (Err r) h = tt

density_finite : (F : Fluid) (T P : Float) (side : Side) → HandsOutFinite (density_at F T P side)
unfolding density_at plain_of
density_finite F T P side = go (search_permit F T P (entry_of F).top_cells true) refl
  where
    go : (i : Permit) → search_permit F T P (entry_of F).top_cells true ≡ i →
        HandsOutFinite (found_answer_of (searched i (found_state_of F T (plain_step_of side (pressures_of F T) P (entry_of F).top_cells))))
    go (Err r) e = tt
    go (Ok _) e =
        let c = (entry_of F).top_cells in
        let asked = question F T P c true e (kept_of F T) (kept_fluid F T) in
        let p = pressures_of F T in
        place_finite F T (plain_step_of side p P c) (plain_inside p P c asked.top side)

work_finite : (asked : Result Question Refusal) → HandsOutFinite (work_of asked)
work_finite (Ok (State F T ρ)) = pressure_finite F T ρ
work_finite (Ok (Search F T P side)) = density_finite F T P side
work_finite (Err r) = tt

pub answer_finite : (s : List ℕ) → HandsOutFinite (answer_of s)
unfolding answer_of
answer_finite s = work_finite (question_of s)

pub call_finite : (s : List ℕ) (room : ℕ) → HandsOutFinite (call_of s room)
unfolding call_of
call_finite s room = permitted_finite (permit_of (question_of s) room) (work_of (question_of s)) (work_finite (question_of s))
