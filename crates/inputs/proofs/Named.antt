-- A call that goes by what its number names meets the definition that goes by the number: a law for each of the two ways.
use mathlib.Core.Path.{◌≡◌, sym, ◌∙◌, ap}
use Prim.Native.Nat.{ℕ}
use Rattle.std.specs.Prelude.{Result, Ok, Err}
use Rattle.refusals.specs.declared.Refusal.{Refusal}
use Rattle.fluids.specs.declared.Fluid.{Fluid}
use Rattle.fluids.specs.Entries.{fluid_numbered}
use Rattle.inputs.specs.Numbered.{by_name, by_number}

module _ {A : Type 0} (refused : Refusal → A) (call : Fluid → A) (n : ℕ) {named : Result Fluid Refusal} {r : A} (e : named ≡ fluid_numbered n) where
  pub known_fluid : {F : Fluid} → named ≡ Ok F → r ≡ call F → r ≡ by_number refused n call
  known_fluid told ends = ends ∙ ap (λ (m : Result Fluid Refusal). by_name refused m call) (sym told ∙ e)

  pub unknown_fluid : {refusal : Refusal} → named ≡ Err refusal → r ≡ refused refusal → r ≡ by_number refused n call
  unknown_fluid told ends = ends ∙ ap (λ (m : Result Fluid Refusal). by_name refused m call) (sym told ∙ e)
