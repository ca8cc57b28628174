-- Each public call of the crate `steps` promises one outcome: its contract gives it by a definition of its arguments.
use mathlib.Core.Path.{sym, ◌∙◌}
use Rattle.promises.specs.OneOutcome.{OneResult}
use Rattle.steps.proofs.step_density.Kinds as step_density_kinds
use Rattle.steps.proofs.step_density.Reads as step_density_reads
use Rattle.steps.proofs.step_pressure.Kinds as step_pressure_kinds
use Rattle.steps.proofs.step_pressure.Reads as step_pressure_reads
use Rattle.steps.proofs.end_pressure.Kinds as end_pressure_kinds
use Rattle.steps.proofs.end_pressure.Reads as end_pressure_reads

pub step_density_one : OneResult _ step_density_kinds.ps step_density_kinds.r step_density_reads.Learnt
step_density_one κs a x y e f p q = p ∙ sym q

pub step_pressure_one : OneResult _ step_pressure_kinds.ps step_pressure_kinds.r step_pressure_reads.Learnt
step_pressure_one κs a x y e f p q = p ∙ sym q

pub end_pressure_one : OneResult _ end_pressure_kinds.ps end_pressure_kinds.r end_pressure_reads.Learnt
end_pressure_one κs a x y e f p q = p ∙ sym q
