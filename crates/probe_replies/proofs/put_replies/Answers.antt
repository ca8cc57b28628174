-- `put_replies` meets its contract. The loop's invariant: the first k questions are answered in the first 16·k places, and the places after
-- them are as they were. Assumes nothing.
use native.Mathlib.Omega.{arith}
use Rattle.probe_replies.specs.Replies.{reply_count}
use Rattle.probe_replies.proofs.Progress.{none_yet, one_more, finished}
use Rattle.probe_replies.proofs.put_replies.Goals as goal

pub loop-k-init : goal.loop-k-init
loop-k-init c = none_yet _ _

pub loop-k-preserved : goal.loop-k-preserved
loop-k-preserved c =
    one_more _ _ _ _ _ _ c.loop-k.invariant
    (omega (arith, c.loop-k.auto.out, c.loop-k-test.true, c.min-count.ensures))
    c.reply_at-reply.ensures
    c.put_reply.ensures

pub returns-clause-value : goal.returns-clause-value
unfolding reply_count
returns-clause-value c = omega (arith, c.div_ceil.ensures, c.min-count.ensures)

pub returns-clause-out_after : goal.returns-clause-out_after
unfolding reply_count
returns-clause-out_after c =
    finished _ _ _ _ c.loop-k.invariant (omega (arith, c.div_ceil.ensures, c.min-count.ensures, c.loop-k-test.false, c.loop-k.auto.k-end))
