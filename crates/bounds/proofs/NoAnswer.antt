-- specs/NoAnswer.antt holds of every fluid. Assumes nothing.
use Rattle.fluids.specs.declared.Fluid.{Fluid}
use Rattle.density.proofs.NeverNine.{plain_never_nine, plain_never_sixteen, quick_call_never_nine}
use Rattle.density.proofs.QuickIsPlain.{never_sixteen}
use Rattle.bounds.specs.NoAnswer.{ElementaryCalls, PropertyCalls, EstimateCalls, SearchCalls}
use Rattle.intervals.proofs.Elementary.{exponential_12, logarithm_12, square_root_12}
use Rattle.bounds.proofs.NeverTwelve.{pressure_never_12, energy_never_12, enthalpy_never_12, isochoric_never_12}
use Rattle.bounds.proofs.Potentials.{entropy_12, gibbs_12, helmholtz_12}
use Rattle.bounds.proofs.Stable.{sound_speed_12, isobaric_12}
use Rattle.bounds.proofs.Estimated.{saturation_pressure_never_12, saturated_liquid_never_12, saturated_vapour_never_12}
use Rattle.bounds.proofs.Searches.{prepared_always, eight_from_below, eight_from_above, only_eight, plain_never_12, quick_never_12, plain_encloses, every_question_answered}

pub elementary_calls_lem : ElementaryCalls
elementary_calls_lem = record { exponential = exponential_12; logarithm = logarithm_12; square_root = square_root_12 }

pub property_calls_lem : (F : Fluid) → PropertyCalls F
property_calls_lem F = record {
  pressure = pressure_never_12 F;
  energy = energy_never_12 F;
  enthalpy = enthalpy_never_12 F;
  isochoric = isochoric_never_12 F;
  entropy = entropy_12 F;
  gibbs = gibbs_12 F;
  helmholtz = helmholtz_12 F;
  sound_speed = sound_speed_12 F;
  isobaric = isobaric_12 F;
}

pub estimate_calls_lem : (F : Fluid) → EstimateCalls F
estimate_calls_lem F = record {
  saturation_pressure = saturation_pressure_never_12 F;
  saturated_liquid = saturated_liquid_never_12 F;
  saturated_vapour = saturated_vapour_never_12 F;
}

pub search_calls_lem : (F : Fluid) → SearchCalls F
search_calls_lem F = record {
  prepared = prepared_always F;
  plain = λ t P c side. (plain_never_nine F t P c side, plain_never_12 F t P c side, plain_never_sixteen F t P c side);
  quick = λ t P c side g l. (quick_call_never_nine F t P c side g l, quick_never_12 F t P c side g l);
  quick_prepared = λ t P c side g l ready. never_sixteen F t c g l ready P side;
  from_below_lem = eight_from_below F;
  from_above_lem = eight_from_above F;
  only_8 = λ t P c side ok. only_eight F t P c ok side;
  encloses = plain_encloses F;
  answered = every_question_answered F;
}
