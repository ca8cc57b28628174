-- `answer_each` meets its contract: the first k records are answered, each in its own bytes and its own place.
use Rattle.runs.proofs.Progress.{Answered}
use Rattle.runs.proofs.answer_each.Given as goal

abbrev pub invariant-loop-k : goal.invariant-loop-k
invariant-loop-k l = Answered l.run l.initial.out l.initial.codes l.out l.codes l.k
