-- The state and the pressure at a density, of a temperature that is kept.
use Rattle.std.specs.Prelude.{Float}
use Rattle.arithmetic.specs.Checked.{real, ◌⊘◌, ◌⊗◌, ◌⊕◌}
use Rattle.fluids.specs.declared.Fluid.{Fluid}
use Rattle.fluids.specs.Entries.{entry_of}
use Rattle.kept.specs.declared.Kept.{Kept}
use Rattle.kept.specs.Kept.{kept_of}
use Rattle.sums.specs.Sums.{sums_at}
use Rattle.equation.specs.declared.state.State.{State}

-- the state at a density: δ = ρ/ρc, and the sums there
unfoldable pub state_of : Kept → Float → State
state_of k ρ =
    let δ = ρ ⊘ (entry_of k.fluid).ρc in
    record { fluid = k.fluid; t = k.t; tau = k.tau; ln_tau = k.ln_tau; rho = ρ; delta = δ; sums = sums_at k δ }

-- the state of a fluid at T and ρ
abbrev pub state_at : Fluid → Float → Float → State
state_at F T ρ = state_of (kept_of F T) ρ

-- pressure ((ρ·1000)·(R·T))·(1 + S1)
abbrev pub pressure_by : Float → Float → Float → Float → Float
pressure_by R T ρ S1 = ((ρ ⊗ real 1000) ⊗ (R ⊗ T)) ⊗ (real 1 ⊕ S1)

unfoldable pub pressure_value : State → Float
pressure_value s = pressure_by (entry_of s.fluid).R s.t s.rho s.sums.s1

unfoldable pub pressure_at : Kept → Float → Float
pressure_at k ρ = pressure_value (state_of k ρ)
