-- Each public call of the crate `properties` promises one outcome: its contract gives it by a definition of its arguments.
use mathlib.Core.Path.{sym, ◌∙◌}
use Rattle.promises.specs.OneOutcome.{OneResult}
use Rattle.properties.proofs.pressure.Kinds as pressure_kinds
use Rattle.properties.proofs.pressure.Reads as pressure_reads
use Rattle.properties.proofs.energy.Kinds as energy_kinds
use Rattle.properties.proofs.energy.Reads as energy_reads
use Rattle.properties.proofs.enthalpy.Kinds as enthalpy_kinds
use Rattle.properties.proofs.enthalpy.Reads as enthalpy_reads
use Rattle.properties.proofs.isochoric_heat_capacity.Kinds as isochoric_heat_capacity_kinds
use Rattle.properties.proofs.isochoric_heat_capacity.Reads as isochoric_heat_capacity_reads
use Rattle.properties.proofs.entropy.Kinds as entropy_kinds
use Rattle.properties.proofs.entropy.Reads as entropy_reads
use Rattle.properties.proofs.gibbs_energy.Kinds as gibbs_energy_kinds
use Rattle.properties.proofs.gibbs_energy.Reads as gibbs_energy_reads
use Rattle.properties.proofs.helmholtz_energy.Kinds as helmholtz_energy_kinds
use Rattle.properties.proofs.helmholtz_energy.Reads as helmholtz_energy_reads
use Rattle.properties.proofs.isobaric_heat_capacity.Kinds as isobaric_heat_capacity_kinds
use Rattle.properties.proofs.isobaric_heat_capacity.Reads as isobaric_heat_capacity_reads
use Rattle.properties.proofs.sound_speed.Kinds as sound_speed_kinds
use Rattle.properties.proofs.sound_speed.Reads as sound_speed_reads
use Rattle.properties.proofs.answer_of.Kinds as answer_of_kinds
use Rattle.properties.proofs.answer_of.Reads as answer_of_reads

pub pressure_one : OneResult _ pressure_kinds.ps pressure_kinds.r pressure_reads.Learnt
pressure_one κs a x y e f p q = p ∙ sym q

pub energy_one : OneResult _ energy_kinds.ps energy_kinds.r energy_reads.Learnt
energy_one κs a x y e f p q = p ∙ sym q

pub enthalpy_one : OneResult _ enthalpy_kinds.ps enthalpy_kinds.r enthalpy_reads.Learnt
enthalpy_one κs a x y e f p q = p ∙ sym q

pub isochoric_heat_capacity_one : OneResult _ isochoric_heat_capacity_kinds.ps isochoric_heat_capacity_kinds.r isochoric_heat_capacity_reads.Learnt
isochoric_heat_capacity_one κs a x y e f p q = p ∙ sym q

pub entropy_one : OneResult _ entropy_kinds.ps entropy_kinds.r entropy_reads.Learnt
entropy_one κs a x y e f p q = p ∙ sym q

pub gibbs_energy_one : OneResult _ gibbs_energy_kinds.ps gibbs_energy_kinds.r gibbs_energy_reads.Learnt
gibbs_energy_one κs a x y e f p q = p ∙ sym q

pub helmholtz_energy_one : OneResult _ helmholtz_energy_kinds.ps helmholtz_energy_kinds.r helmholtz_energy_reads.Learnt
helmholtz_energy_one κs a x y e f p q = p ∙ sym q

pub isobaric_heat_capacity_one : OneResult _ isobaric_heat_capacity_kinds.ps isobaric_heat_capacity_kinds.r isobaric_heat_capacity_reads.Learnt
isobaric_heat_capacity_one κs a x y e f p q = p ∙ sym q

pub sound_speed_one : OneResult _ sound_speed_kinds.ps sound_speed_kinds.r sound_speed_reads.Learnt
sound_speed_one κs a x y e f p q = p ∙ sym q

pub answer_of_one : OneResult _ answer_of_kinds.ps answer_of_kinds.r answer_of_reads.Learnt
answer_of_one κs a x y e f p q = p ∙ sym q
