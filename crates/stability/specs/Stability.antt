-- 01, "With V, K, Q": V, K and Q of a state, and the isobaric heat capacity and the sound speed from them, `nan` where 12 is owed.
use Rattle.std.specs.Prelude.{Float}
use Rattle.arithmetic.specs.Checked.{real, squash, ◌⊕◌, ◌⊖◌, ◌⊗◌, ◌⊘◌}
use Rattle.roots.specs.Root.{root_of}
use Rattle.fluids.specs.Entries.{entry_of}
use Rattle.equation.specs.declared.state.State.{State}
use Rattle.ideal.specs.Ideal.{I2}
use Rattle.stability.specs.declared.Stability.{Stability}

-- R·(V + K·K/Q); a divisor that is not finite counts as `nan`
unfoldable pub isobaric_from : Stability → Float
isobaric_from w = (entry_of w.fluid).R ⊗ (w.v ⊕ w.k ⊗ w.k ⊘ squash w.q)

-- root((R·T)/M·(Q + K·K/V))
unfoldable pub sound_speed_from : Stability → Float
sound_speed_from w = root_of (((entry_of w.fluid).R ⊗ w.t) ⊘ (entry_of w.fluid).M ⊗ (w.q ⊕ w.k ⊗ w.k ⊘ squash w.v))

module _ (s : State) where
  -- V = I2 − T2, K = 1 + S1 − ST, Q = 1 + 2·S1 + S2
  unfoldable pub «V» : Float
  «V» = I2 s.fluid s.t ⊖ s.sums.t2

  unfoldable pub K : Float
  K = real 1 ⊕ s.sums.s1 ⊖ s.sums.st

  unfoldable pub Q : Float
  Q = real 1 ⊕ real 2 ⊗ s.sums.s1 ⊕ s.sums.s2

  unfoldable pub stability_of : Stability
  stability_of = record { fluid = s.fluid; t = s.t; v = «V»; k = K; q = Q }

  -- R·(V + K·K/Q)
  unfoldable pub isobaric_value : Float
  isobaric_value = isobaric_from stability_of

  -- root((R·T)/M·(Q + K·K/V))
  unfoldable pub sound_speed_value : Float
  sound_speed_value = sound_speed_from stability_of
