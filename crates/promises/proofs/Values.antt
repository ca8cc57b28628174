-- Each public call of the crate `values` promises one outcome: its contract gives it by a definition of its arguments.
use mathlib.Core.Path.{sym, ◌∙◌}
use Rattle.promises.specs.OneOutcome.{OneResult}
use Rattle.values.proofs.energy_value.Kinds as energy_value_kinds
use Rattle.values.proofs.energy_value.Reads as energy_value_reads
use Rattle.values.proofs.enthalpy_value.Kinds as enthalpy_value_kinds
use Rattle.values.proofs.enthalpy_value.Reads as enthalpy_value_reads
use Rattle.values.proofs.isochoric_value.Kinds as isochoric_value_kinds
use Rattle.values.proofs.isochoric_value.Reads as isochoric_value_reads
use Rattle.values.proofs.entropy_value.Kinds as entropy_value_kinds
use Rattle.values.proofs.entropy_value.Reads as entropy_value_reads
use Rattle.values.proofs.gibbs_over_rt.Kinds as gibbs_over_rt_kinds
use Rattle.values.proofs.gibbs_over_rt.Reads as gibbs_over_rt_reads
use Rattle.values.proofs.gibbs_value.Kinds as gibbs_value_kinds
use Rattle.values.proofs.gibbs_value.Reads as gibbs_value_reads
use Rattle.values.proofs.helmholtz_value.Kinds as helmholtz_value_kinds
use Rattle.values.proofs.helmholtz_value.Reads as helmholtz_value_reads

pub energy_value_one : OneResult _ energy_value_kinds.ps energy_value_kinds.r energy_value_reads.Learnt
energy_value_one κs a x y e f p q = p ∙ sym q

pub enthalpy_value_one : OneResult _ enthalpy_value_kinds.ps enthalpy_value_kinds.r enthalpy_value_reads.Learnt
enthalpy_value_one κs a x y e f p q = p ∙ sym q

pub isochoric_value_one : OneResult _ isochoric_value_kinds.ps isochoric_value_kinds.r isochoric_value_reads.Learnt
isochoric_value_one κs a x y e f p q = p ∙ sym q

pub entropy_value_one : OneResult _ entropy_value_kinds.ps entropy_value_kinds.r entropy_value_reads.Learnt
entropy_value_one κs a x y e f p q = p ∙ sym q

pub gibbs_over_rt_one : OneResult _ gibbs_over_rt_kinds.ps gibbs_over_rt_kinds.r gibbs_over_rt_reads.Learnt
gibbs_over_rt_one κs a x y e f p q = p ∙ sym q

pub gibbs_value_one : OneResult _ gibbs_value_kinds.ps gibbs_value_kinds.r gibbs_value_reads.Learnt
gibbs_value_one κs a x y e f p q = p ∙ sym q

pub helmholtz_value_one : OneResult _ helmholtz_value_kinds.ps helmholtz_value_kinds.r helmholtz_value_reads.Learnt
helmholtz_value_one κs a x y e f p q = p ∙ sym q
