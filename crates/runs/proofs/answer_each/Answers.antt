-- `answer_each` meets its contract: the first k records are answered, each in its own bytes and its own place.
use mathlib.Core.Path.{◌∙◌}
use native.Mathlib.Omega.{arith}
use Rattle.runs.proofs.Progress.{none_yet, one_more, finished}
use Rattle.runs.proofs.answer_each.Goals as goal

pub loop-k-init : goal.loop-k-init
loop-k-init c = none_yet _ _ _

pub loop-k-preserved : goal.loop-k-preserved
loop-k-preserved c =
    one_more _ _ _ _ _ _ c.loop-k.invariant _ _ _ c.record_at.ensures (omega arith) (omega arith) (c.answer_code.ensures ∙ c.answer_into.ensures.0) c.answer_into.ensures.1

pub returns : goal.returns
returns c = finished _ _ _ _ _ _ c.loop-k.invariant (omega arith)
