-- A step gives 12 exactly if its pressure is not finite: the equation's pressure is finite or `nan`.
use mathlib.Core.Path.{◌≡◌, refl}
use mathlib.Core.Bool.{not}
use Prim.Native.Nat.{ℕ}
use lib.Ieee.{Float, nan, inf, fin, is_nan}
use lib.Ieee.Scale.{finite}
use Rattle.arithmetic.specs.Checked.{squash}
use Rattle.fluids.specs.declared.Fluid.{Fluid}
use Rattle.kept.specs.Kept.{kept_of}
use Rattle.equation.proofs.Laws.{pressure_squashed}
use Rattle.steps.specs.Steps.{step_density_of, step_pressure_of}
use Rattle.steps.specs.Steps.{pressures_of}

squashed_number : (x : Float) → squash x ≡ x → is_nan x ≡ not (finite x)
unfolding is_nan
squashed_number nan e = refl
squashed_number (inf s) e = cc
squashed_number (fin s m e) h = refl

pub gives_twelve_is_not_finite : (F : Fluid) (t : Float) (k : ℕ) → is_nan (pressures_of F t k) ≡ not (finite (pressures_of F t k))
unfolding step_pressure_of
gives_twelve_is_not_finite F t k = squashed_number (pressures_of F t k) (pressure_squashed (kept_of F t) (step_density_of k))
