-- 02, M-105, the proposer: from the two estimates at T, the first pair that the judge accepts, of the starting one and those of 40 rounds.
use Rattle.std.specs.Prelude.{Bool, cond, ◌&&◌, List, [], ◌∷◌, ℕ, zero, suc, ◌+◌, Float, Result, Ok, Err}
use Rattle.refusals.specs.declared.Refusal.{Refusal}
use Rattle.refusals.specs.declared.Refusal.TheVariants.{GaveUp}
use Rattle.refusals.specs.Answer.{Answer}
use Rattle.refusals.specs.Order.{granted}
use Rattle.fluids.specs.declared.Fluid.{Fluid}
use Rattle.inputs.specs.Inputs.{pair_permit}
use Rattle.saturation.specs.Calls.{saturated_liquid_of, saturated_vapour_of}
use Rattle.coexistence.specs.declared.Densities.{Densities}
use Rattle.coexistence.specs.declared.proposer.Judged.{Judged}
use Rattle.coexistence.specs.declared.proposer.Judged.TheVariants.{Accepted, GoesOn, Ends}
use Rattle.coexistence.specs.Phase.{compared_at}
use Rattle.coexistence.specs.Judge.{all_finite, judge_of}
use Rattle.coexistence.specs.Round.{next_by}

abbrev pub pair : Float → Float → Densities
pair l v = record { liquid = l; vapour = v }

-- the rounds after the starting pair
abbrev pub rounds : ℕ
rounds = 40

module _ (F : Fluid) (T : Float) where
  -- the judge accepts the pair
  unfoldable pub accepts : Densities → Bool
  accepts d = granted (judge_of F T d.liquid d.vapour)

  -- the rounds go on from it, accepted or not: its densities are in 0..greatest, and what was worked of it is finite
  unfoldable pub goes_on : Densities → Bool
  goes_on d = granted (pair_permit F T d.liquid d.vapour) && all_finite (compared_at F T d.liquid d.vapour)

  -- the pair of the next round
  unfoldable pub next_of : Densities → Densities
  next_of d = next_by F T d.liquid d.vapour (compared_at F T d.liquid d.vapour)

  -- the pair d and those of the rounds after it, n pairs at most; none follows one that ends the rounds
  unfoldable pub pairs_from : ℕ → Densities → List Densities
  pairs_from zero d = []
  pairs_from (suc n) d = d ∷ cond (goes_on d) (pairs_from n (next_of d)) []

  -- the starting pair and those of the rounds
  unfoldable pub pairs_after : Densities → List Densities
  pairs_after start = pairs_from (1 + rounds) start

  -- the first that is accepted, or 20
  unfoldable pub first_accepted : List Densities → Result Densities Refusal
  first_accepted [] = Err GaveUp
  first_accepted (d ∷ ds) = cond (accepts d) (Ok d) (first_accepted ds)

  -- the two estimates are the starting pair; where one of them is refused, so is the pair
  abbrev pub started_with : Answer → Answer → Result Densities Refusal
  started_with (Ok l) (Ok v) = first_accepted (pairs_after (pair l v))
  started_with (Ok l) (Err r) = Err r
  started_with (Err r) vapour = Err r

  unfoldable pub pair_of : Result Densities Refusal
  pair_of = started_with (saturated_liquid_of F T) (saturated_vapour_of F T)

  -- one pair of the sequence, as the code takes it
  unfoldable pub judged_of : Densities → Judged
  judged_of d = cond (accepts d) Accepted (cond (goes_on d) (GoesOn (next_of d)) Ends)
