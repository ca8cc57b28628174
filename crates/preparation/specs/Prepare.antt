-- 01, "Preparing": what a preparation of c cells at T ends with, and what it leaves in both lists.
use Rattle.std.specs.Prelude.{Bool, true, false, List, ℕ, ◌+◌, length, Float, Ok, Err}
use Rattle.refusals.specs.declared.Refusal.{Refusal}
use Rattle.refusals.specs.declared.Refusal.TheVariants.{WorkNotFinite}
use Rattle.search.specs.Plain.{at_ends}
use Rattle.search.specs.Lists.{some_not_finite, greatest_list, least_list}
use Rattle.refusals.specs.Answer.{Permit}
use Rattle.refusals.specs.Order.{left_by}
use Rattle.fluids.specs.declared.Fluid.{Fluid}
use Rattle.inputs.specs.Inputs.{room_of, prepare_permit}
use Rattle.inputs.specs.Numbered.{by_number}
use Rattle.steps.specs.Steps.{pressures_of}

-- refused by the inputs, with 12 where an end gives 12, or ready
abbrev pub prepared_by : Permit → Bool → Permit
prepared_by (Err r) notFinite = Err r
prepared_by (Ok _) true = Err WorkNotFinite
prepared_by (Ok _) false = Ok tt

unfoldable pub prepare_of : Fluid → Float → ℕ → List Float → List Float → Permit
prepare_of F t c greatest least =
    prepared_by (prepare_permit F t c (room_of c (length greatest) (length least))) (some_not_finite (at_ends (pressures_of F t)) (c + 1))

-- the list for G after the call
unfoldable pub greatest_after : Fluid → Float → ℕ → List Float → List Float → List Float
greatest_after F t c greatest least =
    left_by (prepare_permit F t c (room_of c (length greatest) (length least))) greatest (greatest_list (at_ends (pressures_of F t)) c greatest)

-- the list for L after the call
unfoldable pub least_after : Fluid → Float → ℕ → List Float → List Float → List Float
least_after F t c greatest least =
    left_by (prepare_permit F t c (room_of c (length greatest) (length least))) least (least_list (at_ends (pressures_of F t)) c least)

-- ---- the call for the fluid of the number n

-- a list after it: as it was where no fluid has that number
abbrev pub left_unless_known : ℕ → List Float → (Fluid → List Float) → List Float
left_unless_known n before after = by_number (λ (r : Refusal). before) n after

abbrev pub prepare_by : ℕ → Float → ℕ → List Float → List Float → Permit
prepare_by n t c greatest least = by_number Err n (λ F. prepare_of F t c greatest least)

abbrev pub greatest_by : ℕ → Float → ℕ → List Float → List Float → List Float
greatest_by n t c greatest least = left_unless_known n greatest (λ F. greatest_after F t c greatest least)

abbrev pub least_by : ℕ → Float → ℕ → List Float → List Float → List Float
least_by n t c greatest least = left_unless_known n least (λ F. least_after F t c greatest least)
