-- Each public call of the crate `inputs` promises one outcome: its contract gives it by a definition of its arguments.
use mathlib.Core.Path.{sym, ◌∙◌}
use Rattle.promises.specs.OneOutcome.{OneResult}
use Rattle.inputs.proofs.room.Kinds as room_kinds
use Rattle.inputs.proofs.room.Reads as room_reads
use Rattle.inputs.proofs.state_inputs.Kinds as state_inputs_kinds
use Rattle.inputs.proofs.state_inputs.Reads as state_inputs_reads
use Rattle.inputs.proofs.potential_inputs.Kinds as potential_inputs_kinds
use Rattle.inputs.proofs.potential_inputs.Reads as potential_inputs_reads
use Rattle.inputs.proofs.saturation_inputs.Kinds as saturation_inputs_kinds
use Rattle.inputs.proofs.saturation_inputs.Reads as saturation_inputs_reads
use Rattle.inputs.proofs.asked_inputs.Kinds as asked_inputs_kinds
use Rattle.inputs.proofs.asked_inputs.Reads as asked_inputs_reads
use Rattle.inputs.proofs.search_inputs.Kinds as search_inputs_kinds
use Rattle.inputs.proofs.search_inputs.Reads as search_inputs_reads
use Rattle.inputs.proofs.prepare_inputs.Kinds as prepare_inputs_kinds
use Rattle.inputs.proofs.prepare_inputs.Reads as prepare_inputs_reads
use Rattle.inputs.proofs.pair_inputs.Kinds as pair_inputs_kinds
use Rattle.inputs.proofs.pair_inputs.Reads as pair_inputs_reads
use Rattle.inputs.proofs.output_inputs.Kinds as output_inputs_kinds
use Rattle.inputs.proofs.output_inputs.Reads as output_inputs_reads

pub room_one : OneResult _ room_kinds.ps room_kinds.r room_reads.Learnt
room_one κs a x y e f p q = p ∙ sym q

pub state_inputs_one : OneResult _ state_inputs_kinds.ps state_inputs_kinds.r state_inputs_reads.Learnt
state_inputs_one κs a x y e f p q = p ∙ sym q

pub potential_inputs_one : OneResult _ potential_inputs_kinds.ps potential_inputs_kinds.r potential_inputs_reads.Learnt
potential_inputs_one κs a x y e f p q = p ∙ sym q

pub saturation_inputs_one : OneResult _ saturation_inputs_kinds.ps saturation_inputs_kinds.r saturation_inputs_reads.Learnt
saturation_inputs_one κs a x y e f p q = p ∙ sym q

pub asked_inputs_one : OneResult _ asked_inputs_kinds.ps asked_inputs_kinds.r asked_inputs_reads.Learnt
asked_inputs_one κs a x y e f p q = p ∙ sym q

pub search_inputs_one : OneResult _ search_inputs_kinds.ps search_inputs_kinds.r search_inputs_reads.Learnt
search_inputs_one κs a x y e f p q = p ∙ sym q

pub prepare_inputs_one : OneResult _ prepare_inputs_kinds.ps prepare_inputs_kinds.r prepare_inputs_reads.Learnt
prepare_inputs_one κs a x y e f p q = p ∙ sym q

pub pair_inputs_one : OneResult _ pair_inputs_kinds.ps pair_inputs_kinds.r pair_inputs_reads.Learnt
pair_inputs_one κs a x y e f p q = p ∙ sym q

pub output_inputs_one : OneResult _ output_inputs_kinds.ps output_inputs_kinds.r output_inputs_reads.Learnt
output_inputs_one κs a x y e f p q = p ∙ sym q
