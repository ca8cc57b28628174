-- What a granted permit says of the inputs, and the permit of a state's stability.
use mathlib.Core.Path.{◌≡◌}
use mathlib.Core.Bool.{true}
use lib.Ieee.{Float}
use Rattle.std.specs.Prelude.{Ok}
use Rattle.arithmetic.specs.Checked.{between}
use Rattle.fluids.specs.declared.Fluid.{Fluid}
use Rattle.fluids.specs.Entries.{entry_of}
use Rattle.equation.specs.declared.state.State.{State}
use Rattle.stability.specs.declared.Stability.{Stability}
use Rattle.stability.specs.Stability.{stability_of}
use Rattle.inputs.specs.Inputs.{state_permit}
use Rattle.inputs.proofs.Passed.{state_passed}
use Rattle.properties.specs.Calls.{stable_of, stability_permit}

module _ (F : Fluid) (t ρ : Float) where
  pub state_temperature : state_permit F t ρ ≡ Ok tt → between (entry_of F).least_T t (entry_of F).greatest_T ≡ true
  state_temperature p = let (numbers, (temperature, rest)) = state_passed F t ρ p in temperature

-- a stability's permit is that of the state that it is of
pub stable_at : (s : State) (w : Stability) → w ≡ stability_of s → stability_permit s ≡ stable_of w.v w.k w.q
unfolding stability_permit stability_of
stable_at s w e = simp e
