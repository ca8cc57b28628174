-- The three estimates as calls: 2, 3, 13, then the number, or 12.
use Rattle.std.specs.Prelude.{Float}
use Rattle.refusals.specs.Answer.{Answer}
use Rattle.refusals.specs.Order.{permitted}
use Rattle.arithmetic.specs.Answered.{answer_from}
use Rattle.fluids.specs.declared.Fluid.{Fluid}
use Rattle.inputs.specs.Inputs.{saturation_permit}
use Rattle.fluids.specs.declared.Curve.{Curve}
use Rattle.saturation.specs.Estimates.{estimate_of, pressure_estimate, liquid_estimate, vapour_estimate}

module _ (F : Fluid) (T : Float) where
  -- the call of a curve
  abbrev pub curve_of : Curve → Answer
  curve_of curve = permitted (saturation_permit F T) (answer_from (estimate_of F T curve))

  unfoldable pub saturation_pressure_of : Answer
  saturation_pressure_of = permitted (saturation_permit F T) (answer_from (pressure_estimate F T))

  unfoldable pub saturated_liquid_of : Answer
  saturated_liquid_of = permitted (saturation_permit F T) (answer_from (liquid_estimate F T))

  unfoldable pub saturated_vapour_of : Answer
  saturated_vapour_of = permitted (saturation_permit F T) (answer_from (vapour_estimate F T))
