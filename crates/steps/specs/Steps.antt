-- 01, "Density steps are k·2⁻³⁰, exact": the density of a step (exact by proofs/StepExact.antt), and the pressure there.
use Rattle.std.specs.Prelude.{cond, ℕ, leb, Float}
use Rattle.std.specs.Float.{nan, binary64}
use Rattle.std.specs.Float.Ieee.{mul}
use Rattle.arithmetic.specs.Checked.{real, two⁻}
use Rattle.fluids.specs.declared.Fluid.{Fluid}
use Rattle.fluids.specs.Entry.{most_cells}
use Rattle.kept.specs.declared.Kept.{Kept}
use Rattle.kept.specs.Kept.{kept_of}
use Rattle.equation.specs.State.{pressure_at}
use Rattle.search.specs.Plain.{end_step}

-- k·2⁻³⁰, in mol/dm³
unfoldable pub step_density_of : ℕ → Float
step_density_of k = mul binary64 (real k) (two⁻ 30)

-- the pressure at the step k of a kept temperature, in Pa; `nan` where 01 owes 12
unfoldable pub step_pressure_of : Kept → ℕ → Float
step_pressure_of kept k = pressure_at kept (step_density_of k)

-- the pressures of a fluid at the steps of the temperature t
abbrev pub pressures_of : Fluid → Float → ℕ → Float
pressures_of F t = step_pressure_of (kept_of F t)

-- ---- no fluid has more than the most cells: what the code gives for a step beyond them is `nan`

unfoldable pub in_steps : ℕ → Float → Float
in_steps k x = cond (leb k (end_step most_cells)) x nan

-- the pressure at the step k, and `nan` beyond the most cells
unfoldable pub pressure_in_steps : Kept → ℕ → Float
pressure_in_steps kept k = in_steps k (step_pressure_of kept k)
