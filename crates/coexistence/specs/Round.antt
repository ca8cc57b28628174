-- 02, M-105, a round: with D = (pl − pv)/((1000·R)·T) and E the liquid's value less the vapour's, y = (D/l − E)/(1/l − 1/v) and x = y − D; then l + x/Ql and
-- v + y/Qv. A number that is not finite makes one of the two densities `nan`, which is in no range.
use Rattle.std.specs.Prelude.{Float}
use Rattle.arithmetic.specs.Checked.{real, ◌⊕◌, ◌⊖◌, ◌⊗◌, ◌⊘◌}
use Rattle.fluids.specs.declared.Fluid.{Fluid}
use Rattle.fluids.specs.Entries.{entry_of}
use Rattle.coexistence.specs.declared.Densities.{Densities}
use Rattle.coexistence.specs.declared.phase.Compared.{Compared}

-- D
unfoldable pub pressure_step : Fluid → Float → Float → Float
pressure_step F T pressures = pressures ⊘ ((real 1000 ⊗ (entry_of F).R) ⊗ T)

-- y
unfoldable pub vapour_step : Float → Float → Float → Float → Float
vapour_step D E l v = (D ⊘ l ⊖ E) ⊘ (real 1 ⊘ l ⊖ real 1 ⊘ v)

-- the next pair, from what was worked of this one
unfoldable pub next_by : Fluid → Float → Float → Float → Compared → Densities
next_by F T l v c =
    let D = pressure_step F T c.pressures in
    let E = c.values in
    let y = vapour_step D E l v in
    let x = y ⊖ D in
    record { liquid = l ⊕ x ⊘ c.liquid.q; vapour = v ⊕ y ⊘ c.vapour.q }
