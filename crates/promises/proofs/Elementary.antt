-- Each public call of the crate `elementary` promises one outcome: its contract gives it by a definition of its arguments.
use mathlib.Core.Path.{sym, ◌∙◌}
use Rattle.promises.specs.OneOutcome.{OneResult}
use Rattle.elementary.proofs.exponential.Kinds as exponential_kinds
use Rattle.elementary.proofs.exponential.Reads as exponential_reads
use Rattle.elementary.proofs.logarithm.Kinds as logarithm_kinds
use Rattle.elementary.proofs.logarithm.Reads as logarithm_reads
use Rattle.elementary.proofs.square_root.Kinds as square_root_kinds
use Rattle.elementary.proofs.square_root.Reads as square_root_reads
use Rattle.elementary.proofs.power.Kinds as power_kinds
use Rattle.elementary.proofs.power.Reads as power_reads

pub exponential_one : OneResult _ exponential_kinds.ps exponential_kinds.r exponential_reads.Learnt
exponential_one κs a x y e f p q = p ∙ sym q

pub logarithm_one : OneResult _ logarithm_kinds.ps logarithm_kinds.r logarithm_reads.Learnt
logarithm_one κs a x y e f p q = p ∙ sym q

pub square_root_one : OneResult _ square_root_kinds.ps square_root_kinds.r square_root_reads.Learnt
square_root_one κs a x y e f p q = p ∙ sym q

pub power_one : OneResult _ power_kinds.ps power_kinds.r power_reads.Learnt
power_one κs a x y e f p q = p ∙ sym q
