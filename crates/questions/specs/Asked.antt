-- 01, "Marked records": what a record asks, and its answer.
use Rattle.std.specs.Prelude.{List, ℕ, Float, Result, Ok, Err}
use Rattle.std.specs.Float.{binary64}
use Rattle.std.specs.Float.Ieee.{of_bits}
use Rattle.refusals.specs.declared.Refusal.{Refusal}
use Rattle.refusals.specs.Answer.{Answer}
use Rattle.fluids.specs.declared.Fluid.{Fluid}
use Rattle.fluids.specs.Entries.{entry_of}
use Rattle.properties.specs.Calls.{pressure_of}
use Rattle.search.specs.declared.Side.{Side}
use Rattle.density.specs.Calls.{plain_of}
use Rattle.outcomes.specs.Codes.{found_answer_of}
use Rattle.records.specs.declared.Kind.{Kind}
use Rattle.records.specs.declared.Kind.TheVariants.{Density, NoSide}
use Rattle.records.specs.declared.Record.{Record}
use Rattle.records.specs.Record.{record_of}
use Rattle.questions.specs.declared.Question.{Question}
use Rattle.questions.specs.declared.Question.TheVariants.{State, Search}

-- by the kind: no side given is taken from below; a no-reading record asks nothing, 1
abbrev pub asked_by : Fluid → Kind → Float → Float → Result Question Refusal
asked_by F Density T ρ = Ok (State F T ρ)
asked_by F Kind.FromBelow T P = Ok (Search F T P Side.FromBelow)
asked_by F Kind.FromAbove T P = Ok (Search F T P Side.FromAbove)
asked_by F NoSide T P = Ok (Search F T P Side.FromBelow)
asked_by F Kind.NoReading T x = Err Refusal.NoReading

-- the numbers of the bits, every NaN pattern a NaN; or 14, 15
abbrev pub asked_of : Result Record Refusal → Result Question Refusal
asked_of (Ok marked) = asked_by marked.fluid marked.kind (of_bits binary64 marked.first) (of_bits binary64 marked.second)
asked_of (Err r) = Err r

unfoldable pub question_of : List ℕ → Result Question Refusal
question_of s = asked_of (record_of s)

-- ---- the answer

-- searches here use the fluid's own top
unfoldable pub density_at : Fluid → Float → Float → Side → Answer
density_at F T P side = found_answer_of (plain_of F T P (entry_of F).top_cells side)

abbrev pub work_of : Result Question Refusal → Answer
work_of (Ok (State F T ρ)) = pressure_of F T ρ
work_of (Ok (Search F T P side)) = density_at F T P side
work_of (Err r) = Err r

unfoldable pub answer_of : List ℕ → Answer
answer_of s = work_of (question_of s)
