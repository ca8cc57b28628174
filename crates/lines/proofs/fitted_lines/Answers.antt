-- `fitted_lines` meets its contract: the first k records' lines are printed.
use mathlib.Core.Path.{◌∙◌}
use native.Mathlib.Omega.{arith}
use Rattle.lines.proofs.Placing.{as_text}
use Rattle.lines.proofs.Printed.{none_yet, one_more, finished}
use Rattle.lines.proofs.fitted_lines.Goals as goal

pub loop-k-init : goal.loop-k-init
loop-k-init c = none_yet _ _ _

pub loop-k-preserved : goal.loop-k-preserved
loop-k-preserved c =
    let put = as_text (c.text.ensures ∙ c.line_of-line.ensures) c.put_text-at.ensures in
    one_more _ _ _ _ _ _ c.loop-k.invariant _ _ _ c.record_at.ensures (omega arith) put

pub returns : goal.returns
returns c = finished _ _ _ _ _ _ c.loop-k.invariant (omega arith)
