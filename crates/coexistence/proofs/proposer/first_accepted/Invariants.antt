-- `first_accepted` meets its contract: the pairs left, from the one at hand on, give what all give.
use mathlib.Core.Path.{◌≡◌}
use Prim.Native.Nat.{◌+◌, ◌-◌}
use Rattle.coexistence.specs.Proposer.{rounds, pairs_from, pairs_after, first_accepted}
use Rattle.coexistence.proofs.proposer.first_accepted.Given as goal

abbrev pub invariant-loop : goal.invariant-loop
invariant-loop l =
    first_accepted l.fluid l.t (pairs_from l.fluid l.t (1 + rounds - l.counter) l.pair) ≡ first_accepted l.fluid l.t (pairs_after l.fluid l.t l.fn.start)
