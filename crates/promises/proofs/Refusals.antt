-- Each public call of the crate `refusals` promises one outcome: its contract gives it by a definition of its arguments.
use mathlib.Core.Path.{sym, ◌∙◌}
use mir.Syntax.{Dict}
use denote.RattleType.{RattleType}
use denote.Param.Laws.{Laws}
use Rattle.promises.specs.OneOutcome.{OneResult}
use Rattle.refusals.proofs.tested.Kinds as tested_kinds
use Rattle.refusals.proofs.tested.Reads as tested_reads
use Rattle.refusals.proofs.U32FromRefusal.from.Kinds as from_kinds
use Rattle.refusals.proofs.U32FromRefusal.from.Reads as from_reads
use Rattle.refusals.proofs.answer_code.Kinds as answer_code_kinds
use Rattle.refusals.proofs.answer_code.Reads as answer_code_reads

pub tested_one : OneResult _ tested_kinds.ps tested_kinds.r tested_reads.Learnt
tested_one κs a x y e f p q = p ∙ sym q

pub from_one : OneResult _ from_kinds.ps from_kinds.r from_reads.Learnt
from_one κs a x y e f p q = p ∙ sym q

-- whatever was answered
pub answer_code_one : (T : RattleType) (l : Laws T) (d : Dict) → let learnt = answer_code_reads.Learnt in OneResult _ (answer_code_kinds.ps T l) (answer_code_kinds.r T l) (learnt T l d)
answer_code_one T l d κs a x y e f p q = p ∙ sym q
