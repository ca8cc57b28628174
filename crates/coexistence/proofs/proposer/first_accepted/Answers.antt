-- `first_accepted` meets its contract: the pairs left, from the one at hand on, give what all give. Assumes nothing.
use mathlib.Core.Path.{refl, ◌∙◌}
use Prim.Native.Nat.{◌+◌, ◌-◌}
use native.Mathlib.Omega.{arith}
use Rattle.coexistence.specs.Proposer.{rounds, pairs_after}
use Rattle.coexistence.proofs.Sequence.{turn, none_left}
use Rattle.coexistence.proofs.proposer.first_accepted.Goals as goal

pub loop-init : goal.loop-init
unfolding pairs_after
loop-init c = refl

pub returns-in-Accepted : goal.returns-in-Accepted
returns-in-Accepted c = turn _ _ (1 + rounds - c.loop.counter) (rounds - c.loop.counter) c.loop.pair (omega arith) c.in-Accepted.ensures ∙ c.loop.invariant

pub returns-in-Ends : goal.returns-in-Ends
returns-in-Ends c = turn _ _ (1 + rounds - c.loop.counter) (rounds - c.loop.counter) c.loop.pair (omega arith) c.in-Ends.ensures ∙ c.loop.invariant

pub loop-preserved : goal.loop-preserved
loop-preserved c = turn _ _ (1 + rounds - c.loop.counter) (1 + rounds - (c.loop.counter + 1)) c.loop.pair (omega arith) c.in-GoesOn.ensures ∙ c.loop.invariant

pub returns : goal.returns
returns c = none_left _ _ c.loop.pair (omega arith) ∙ c.loop.invariant
