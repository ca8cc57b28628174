-- `worked` meets its contract, property by property: the value of the state, or its refusal. Assumes nothing.
use mathlib.Core.Path.{◌∙◌, ap}
use Rattle.arithmetic.specs.Answered.{answer_from}
use Rattle.kept.specs.declared.Kept.{Kept}
use Rattle.equation.specs.State.{pressure_at}
use Rattle.values.specs.Values.{energy_value, enthalpy_value, isochoric_value, entropy_value, gibbs_value, helmholtz_value}
use Rattle.properties.specs.Calls.{stable_isobaric, stable_sound_speed}
use Rattle.properties.proofs.calls.worked.Goals as goal

pub returns-in-Pressure : goal.returns-in-Pressure
unfolding pressure_at
returns-in-Pressure c =
    rw c.in-Pressure.is
    (c.answer_from.ensures ∙ ap answer_from (c.pressure_at.ensures ∙ ap (λ (k : Kept). pressure_at k c.args.rho) c.keep.ensures))

pub returns-in-Energy : goal.returns-in-Energy
returns-in-Energy c = rw c.in-Energy.is (c.answer_from-in-Energy.ensures ∙ ap answer_from (c.energy_value.ensures ∙ ap energy_value c.state_of.ensures))

pub returns-in-Enthalpy : goal.returns-in-Enthalpy
returns-in-Enthalpy c = rw c.in-Enthalpy.is (c.answer_from-in-Enthalpy.ensures ∙ ap answer_from (c.enthalpy_value.ensures ∙ ap enthalpy_value c.state_of-in-Enthalpy.ensures))

pub returns-in-IsochoricHeatCapacity : goal.returns-in-IsochoricHeatCapacity
returns-in-IsochoricHeatCapacity c = rw c.in-IsochoricHeatCapacity.is (c.answer_from-in-IsochoricHeatCapacity.ensures ∙ ap answer_from (c.isochoric_value.ensures ∙ ap isochoric_value c.state_of-in-IsochoricHeatCapacity.ensures))

pub returns-in-Entropy : goal.returns-in-Entropy
returns-in-Entropy c = rw c.in-Entropy.is (c.answer_from-in-Entropy.ensures ∙ ap answer_from (c.entropy_value.ensures ∙ ap entropy_value c.state_of-in-Entropy.ensures))

pub returns-in-GibbsEnergy : goal.returns-in-GibbsEnergy
returns-in-GibbsEnergy c = rw c.in-GibbsEnergy.is (c.answer_from-in-GibbsEnergy.ensures ∙ ap answer_from (c.gibbs_value.ensures ∙ ap gibbs_value c.state_of-in-GibbsEnergy.ensures))

pub returns-in-HelmholtzEnergy : goal.returns-in-HelmholtzEnergy
returns-in-HelmholtzEnergy c = rw c.in-HelmholtzEnergy.is (c.answer_from-in-HelmholtzEnergy.ensures ∙ ap answer_from (c.helmholtz_value.ensures ∙ ap helmholtz_value c.state_of-in-HelmholtzEnergy.ensures))

pub returns-in-IsobaricHeatCapacity : goal.returns-in-IsobaricHeatCapacity
returns-in-IsobaricHeatCapacity c = rw c.in-IsobaricHeatCapacity.is (c.stable_isobaric.ensures ∙ ap stable_isobaric c.state_of-in-IsobaricHeatCapacity.ensures)

pub returns-in-SoundSpeed : goal.returns-in-SoundSpeed
returns-in-SoundSpeed c = rw c.in-SoundSpeed.is (c.stable_sound_speed.ensures ∙ ap stable_sound_speed c.state_of-in-SoundSpeed.ensures)
