-- Each public call of the crate `stability` promises one outcome: its contract gives it by a definition of its arguments.
use mathlib.Core.Path.{sym, ◌∙◌}
use Rattle.promises.specs.OneOutcome.{OneResult}
use Rattle.stability.proofs.stability_of.Kinds as stability_of_kinds
use Rattle.stability.proofs.stability_of.Reads as stability_of_reads
use Rattle.stability.proofs.isobaric_value.Kinds as isobaric_value_kinds
use Rattle.stability.proofs.isobaric_value.Reads as isobaric_value_reads
use Rattle.stability.proofs.sound_speed_value.Kinds as sound_speed_value_kinds
use Rattle.stability.proofs.sound_speed_value.Reads as sound_speed_value_reads
use Rattle.stability.proofs.q_of.Kinds as q_of_kinds
use Rattle.stability.proofs.q_of.Reads as q_of_reads

pub stability_of_one : OneResult _ stability_of_kinds.ps stability_of_kinds.r stability_of_reads.Learnt
stability_of_one κs a x y e f p q = p ∙ sym q

pub isobaric_value_one : OneResult _ isobaric_value_kinds.ps isobaric_value_kinds.r isobaric_value_reads.Learnt
isobaric_value_one κs a x y e f p q = p ∙ sym q

pub sound_speed_value_one : OneResult _ sound_speed_value_kinds.ps sound_speed_value_kinds.r sound_speed_value_reads.Learnt
sound_speed_value_one κs a x y e f p q = p ∙ sym q

pub q_of_one : OneResult _ q_of_kinds.ps q_of_kinds.r q_of_reads.Learnt
q_of_one κs a x y e f p q = p ∙ sym q
