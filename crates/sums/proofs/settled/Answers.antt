-- `settled` meets its contract: six finite sums are squashed already, and others one by one. Assumes nothing.
use mathlib.Core.Path.{◌≡◌, sym, ◌∙◌}
use mathlib.Core.Bool.{true, ◌&&◌}
use lib.Ieee.Scale.{finite}
use Rattle.refusals.proofs.Tests.{and_passed}
use Rattle.arithmetic.proofs.Operations.{squash_finite}
use Rattle.sums.specs.declared.Sums.{Sums}
use Rattle.sums.specs.Squashed.{squash_sums, all_finite}
use Rattle.sums.proofs.settled.Goals as goal

-- six finite sums are squashed already
module _ (s : Sums) (h : all_finite s ≡ true) where
  halves : (finite s.s0 && finite s.s1 ≡ true) × ((finite s.s2 && finite s.t1) && (finite s.t2 && finite s.st) ≡ true)
  halves = and_passed (finite s.s0 && finite s.s1) ((finite s.s2 && finite s.t1) && (finite s.t2 && finite s.st)) h

  squashed_already : s ≡ squash_sums s
  squashed_already =
      let (first, rest) = halves in
      let (second, third) = and_passed (finite s.s2 && finite s.t1) (finite s.t2 && finite s.st) rest in
      let (s0, s1) = and_passed (finite s.s0) (finite s.s1) first in
      let (s2, t1) = and_passed (finite s.s2) (finite s.t1) second in
      let (t2, st) = and_passed (finite s.t2) (finite s.st) third in
      simp (
        squash_finite s.s0 s0,
        squash_finite s.s1 s1,
        squash_finite s.s2 s2,
        squash_finite s.t1 t1,
        squash_finite s.t2 t2,
        squash_finite s.st st,
      )

pub returns-then-all_finite : goal.returns-then-all_finite
returns-then-all_finite c = squashed_already _ (sym c.all_finite.ensures ∙ c.if-all_finite.true)
