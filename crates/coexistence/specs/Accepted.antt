-- 02, M-105: what an accepted pair is, in one statement.
use Rattle.std.specs.Prelude.{◌≡◌, true, Float, Ok}
use Rattle.std.specs.Float.Ieee.{lt, le}
use Rattle.arithmetic.specs.Checked.{real, ◌e-◌, minus, ◌⊖◌}
use Rattle.fluids.specs.declared.Fluid.{Fluid}
use Rattle.fluids.specs.Entries.{entry_of}
use Rattle.inputs.specs.Inputs.{pair_permit}
use Rattle.equation.specs.State.{state_at, pressure_value}
use Rattle.stability.specs.Stability.{Q}
use Rattle.values.specs.Values.{gibbs_over_RT}

-- a < b, and a ≤ b, of binary64 numbers; neither holds of a NaN
infix 4 ◌<ᶠ◌ ◌≤ᶠ◌
abbrev pub ◌<ᶠ◌ : Float → Float → Type 0
a <ᶠ b = lt a b ≡ true

abbrev pub ◌≤ᶠ◌ : Float → Float → Type 0
a ≤ᶠ b = le a b ≡ true

-- the liquid's density l and the vapour's v are a saturation pair of the fluid at T
pub record SaturationPair (F : Fluid) (T l v : Float) : Type 0 where
  -- T, l and v are finite and in the fluid's ranges: neither 2 nor 3 nor 4 applies
  pub in_range_lem : pair_permit F T l v ≡ Ok tt
  -- T < Tc, and 0 < vapour < ρc < liquid
  pub is_below_critical : T <ᶠ (entry_of F).Tc
  pub some_vapour : real 0 <ᶠ v
  pub vapour_side : v <ᶠ (entry_of F).ρc
  pub liquid_side : (entry_of F).ρc <ᶠ l
  -- Q > 0 at both
  pub liquid_stable : real 0 <ᶠ Q (state_at F T l)
  pub vapour_stable : real 0 <ᶠ Q (state_at F T v)
  -- the pressures differ by at most 0.01 Pa
  pub pressures_from : minus (1 e- 2) ≤ᶠ pressure_value (state_at F T l) ⊖ pressure_value (state_at F T v)
  pub pressures_to : pressure_value (state_at F T l) ⊖ pressure_value (state_at F T v) ≤ᶠ 1 e- 2
  -- the values 1 + I0 + S0 + S1 differ by at most 1e-9
  pub values_from : minus (1 e- 9) ≤ᶠ gibbs_over_RT (state_at F T l) ⊖ gibbs_over_RT (state_at F T v)
  pub values_to : gibbs_over_RT (state_at F T l) ⊖ gibbs_over_RT (state_at F T v) ≤ᶠ 1 e- 9
