-- A granted permit says that the temperature is finite.
use mathlib.Core.Path.{◌≡◌}
use lib.Ieee.{Float}
use Rattle.std.specs.Prelude.{Ok}
use Rattle.refusals.proofs.Needed.{test_passed}
use Rattle.arithmetic.proofs.Operations.{squash_finite}
use Rattle.fluids.specs.declared.Fluid.{Fluid}
use Rattle.fluids.specs.Finite.{Finite}
use Rattle.inputs.specs.Inputs.{saturation_permit}

pub saturation_finite : (F : Fluid) (t : Float) → saturation_permit F t ≡ Ok tt → Finite t
unfolding saturation_permit
saturation_finite F t p = squash_finite t (test_passed _ _ _ p)
