-- Each public call of the crate `equation` promises one outcome: its contract gives it by a definition of its arguments.
use mathlib.Core.Path.{sym, ◌∙◌}
use Rattle.promises.specs.OneOutcome.{OneResult}
use Rattle.equation.proofs.pressure_at.Kinds as pressure_at_kinds
use Rattle.equation.proofs.pressure_at.Reads as pressure_at_reads
use Rattle.equation.proofs.state_at.Kinds as state_at_kinds
use Rattle.equation.proofs.state_at.Reads as state_at_reads
use Rattle.equation.proofs.pressure_of.Kinds as pressure_of_kinds
use Rattle.equation.proofs.pressure_of.Reads as pressure_of_reads

pub pressure_at_one : OneResult _ pressure_at_kinds.ps pressure_at_kinds.r pressure_at_reads.Learnt
pressure_at_one κs a x y e f p q = p ∙ sym q

pub state_at_one : OneResult _ state_at_kinds.ps state_at_kinds.r state_at_reads.Learnt
state_at_one κs a x y e f p q = p ∙ sym q

pub pressure_of_one : OneResult _ pressure_of_kinds.ps pressure_of_kinds.r pressure_of_reads.Learnt
pressure_of_one κs a x y e f p q = p ∙ sym q
