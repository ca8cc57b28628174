-- 02, M-105, the judge: whether the liquid's density l and the vapour's v are accepted as a saturation pair at T, by its tests in their order: 2, 3,
-- 4, 19, 12, 19.
use Rattle.std.specs.Prelude.{Bool, ◌&&◌, List, [], ◌∷◌, ◌++◌, Float}
use Rattle.std.specs.Float.Ieee.{lt}
use Rattle.std.specs.Float.Ieee.Scale.{finite}
use Rattle.refusals.specs.declared.Refusal.{Refusal}
use Rattle.refusals.specs.declared.Refusal.TheVariants.{WorkNotFinite, NotAccepted}
use Rattle.refusals.specs.Answer.{Permit}
use Rattle.refusals.specs.Order.{first_of}
use Rattle.arithmetic.specs.Checked.{real, ◌e-◌, minus, between}
use Rattle.fluids.specs.declared.Fluid.{Fluid}
use Rattle.fluids.specs.Entries.{entry_of}
use Rattle.inputs.specs.Inputs.{pair_tests}
use Rattle.coexistence.specs.declared.phase.Phase.{Phase}
use Rattle.coexistence.specs.declared.phase.Compared.{Compared}
use Rattle.coexistence.specs.Phase.{compared_at}

-- ---- before the work

-- T < Tc, and 0 < vapour < ρc < liquid
unfoldable pub ordered : Fluid → Float → Float → Float → Bool
ordered F T l v = lt T (entry_of F).Tc && (lt (real 0) v && (lt v (entry_of F).ρc && lt (entry_of F).ρc l))

-- ---- of what was worked

abbrev pub phase_finite : Phase → Bool
phase_finite phase = finite phase.pressure && (finite phase.value && finite phase.q)

-- the two pressures, the two values, the two Q and either difference are finite
unfoldable pub all_finite : Compared → Bool
all_finite c = (phase_finite c.liquid && phase_finite c.vapour) && (finite c.pressures && finite c.values)

-- 0.01 Pa and 1e-9, each the nearest binary64
abbrev pub pressure_bound : Float
pressure_bound = 1 e- 2

abbrev pub value_bound : Float
value_bound = 1 e- 9

-- a difference is at most a bound, whatever its sign; equality passes
abbrev pub near : Float → Float → Bool
near bound x = between (minus bound) x bound

-- Q > 0 at both, the pressures at most 0.01 Pa apart, and the values at most 1e-9
unfoldable pub meets : Compared → Bool
meets c = (lt (real 0) c.liquid.q && lt (real 0) c.vapour.q) && (near pressure_bound c.pressures && near value_bound c.values)

-- ---- in order

module _ (F : Fluid) (T l v : Float) where
  -- 12, then 19
  abbrev pub verdict_tests : List (Bool × Refusal)
  verdict_tests = (all_finite (compared_at F T l v), WorkNotFinite) ∷ (meets (compared_at F T l v), NotAccepted) ∷ []

  unfoldable pub verdict_of : Permit
  verdict_of = first_of verdict_tests

  -- 2, 3, 4 and 19 before them
  abbrev pub judge_tests : List (Bool × Refusal)
  judge_tests = (pair_tests F T l v ++ ((ordered F T l v, NotAccepted) ∷ [])) ++ verdict_tests

  unfoldable pub judge_of : Permit
  judge_of = first_of judge_tests
