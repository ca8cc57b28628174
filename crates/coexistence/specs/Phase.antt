-- 02, M-105: what a pair is judged by: at each density the pressure, the value 1 + I0 + S0 + S1 and Q, from one state; and the two differences,
-- the liquid's less the vapour's, each one rounded subtraction.
use Rattle.std.specs.Prelude.{Float}
use Rattle.arithmetic.specs.Checked.{◌⊖◌}
use Rattle.fluids.specs.declared.Fluid.{Fluid}
use Rattle.kept.specs.declared.Kept.{Kept}
use Rattle.kept.specs.Kept.{kept_of}
use Rattle.equation.specs.declared.state.State.{State}
use Rattle.equation.specs.State.{state_of, pressure_value}
use Rattle.stability.specs.Stability.{Q}
use Rattle.values.specs.Values.{gibbs_over_RT}
use Rattle.coexistence.specs.declared.phase.Phase.{Phase}
use Rattle.coexistence.specs.declared.phase.Compared.{Compared}

unfoldable pub phase_of : State → Phase
phase_of s = record { pressure = pressure_value s; value = gibbs_over_RT s; q = Q s }

-- at a density, of a temperature that is kept
abbrev pub phase_at : Kept → Float → Phase
phase_at k ρ = phase_of (state_of k ρ)

-- the liquid l and the vapour v
unfoldable pub compared_by : Kept → Float → Float → Compared
compared_by k l v =
    let L = phase_at k l in
    let «V» = phase_at k v in
    record { liquid = L; vapour = «V»; pressures = L.pressure ⊖ «V».pressure; values = L.value ⊖ «V».value }

abbrev pub compared_at : Fluid → Float → Float → Float → Compared
compared_at F T l v = compared_by (kept_of F T) l v
