-- `put_replies` meets its contract. The loop's invariant: the first k questions are answered in the first 16·k places, and the places after
-- them are as they were. Assumes nothing.
use Rattle.probe_replies.proofs.Progress.{Answered}
use Rattle.probe_replies.proofs.put_replies.Given as goal

abbrev pub invariant-loop-k : goal.invariant-loop-k
invariant-loop-k l = Answered l.input l.initial.out l.out l.k
