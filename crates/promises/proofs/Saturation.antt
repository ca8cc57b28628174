-- Each public call of the crate `saturation` promises one outcome: its contract gives it by a definition of its arguments.
use mathlib.Core.Path.{sym, ◌∙◌}
use Rattle.promises.specs.OneOutcome.{OneResult}
use Rattle.saturation.proofs.saturation_pressure.Kinds as saturation_pressure_kinds
use Rattle.saturation.proofs.saturation_pressure.Reads as saturation_pressure_reads
use Rattle.saturation.proofs.saturated_liquid.Kinds as saturated_liquid_kinds
use Rattle.saturation.proofs.saturated_liquid.Reads as saturated_liquid_reads
use Rattle.saturation.proofs.saturated_vapour.Kinds as saturated_vapour_kinds
use Rattle.saturation.proofs.saturated_vapour.Reads as saturated_vapour_reads
use Rattle.saturation.proofs.answer_of.Kinds as answer_of_kinds
use Rattle.saturation.proofs.answer_of.Reads as answer_of_reads

pub saturation_pressure_one : OneResult _ saturation_pressure_kinds.ps saturation_pressure_kinds.r saturation_pressure_reads.Learnt
saturation_pressure_one κs a x y e f p q = p ∙ sym q

pub saturated_liquid_one : OneResult _ saturated_liquid_kinds.ps saturated_liquid_kinds.r saturated_liquid_reads.Learnt
saturated_liquid_one κs a x y e f p q = p ∙ sym q

pub saturated_vapour_one : OneResult _ saturated_vapour_kinds.ps saturated_vapour_kinds.r saturated_vapour_reads.Learnt
saturated_vapour_one κs a x y e f p q = p ∙ sym q

pub answer_of_one : OneResult _ answer_of_kinds.ps answer_of_kinds.r answer_of_reads.Learnt
answer_of_one κs a x y e f p q = p ∙ sym q
