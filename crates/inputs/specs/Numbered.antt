-- 17, unknown fluid: it comes before 2, and so before every test of a call on a fluid, as these are tests against that fluid's own limits.
use Rattle.std.specs.Prelude.{ℕ, Result, Ok, Err}
use Rattle.refusals.specs.declared.Refusal.{Refusal}
use Rattle.fluids.specs.declared.Fluid.{Fluid}
use Rattle.fluids.specs.Entries.{fluid_numbered}

-- what a call ends with, by what the number names: the call on that fluid, or the refusal 17
abbrev pub by_name : {A : Type 0} → (Refusal → A) → Result Fluid Refusal → (Fluid → A) → A
by_name refused (Ok F) call = call F
by_name refused (Err r) call = refused r

-- the call for the fluid of the number n
abbrev pub by_number : {A : Type 0} → (Refusal → A) → ℕ → (Fluid → A) → A
by_number refused n call = by_name refused (fluid_numbered n) call
