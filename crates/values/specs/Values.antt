-- 01, "With V, K, Q": the properties of a state that need no K and no Q, `nan` where 12 is owed; the pressure is equation/specs/State.antt's, the other two are
-- stability/specs/Stability.antt's.
use Rattle.std.specs.Prelude.{Float}
use Rattle.arithmetic.specs.Checked.{real, ◌⊕◌, ◌⊖◌, ◌⊗◌}
use Rattle.fluids.specs.Entries.{entry_of}
use Rattle.equation.specs.declared.state.State.{State}
use Rattle.ideal.specs.Ideal.{I0, I1}
use Rattle.stability.specs.Stability.{«V»}

module _ (s : State) where
  -- the ideal part
  unfoldable pub i0 : Float
  i0 = I0 s.fluid s.t s.tau s.ln_tau s.delta

  unfoldable pub i1 : Float
  i1 = I1 s.fluid s.t s.tau

  -- (R·T)·(I1 + T1)
  unfoldable pub energy_value : Float
  energy_value = ((entry_of s.fluid).R ⊗ s.t) ⊗ (i1 ⊕ s.sums.t1)

  -- (R·T)·(I1 + T1 + S1 + 1)
  unfoldable pub enthalpy_value : Float
  enthalpy_value = ((entry_of s.fluid).R ⊗ s.t) ⊗ (i1 ⊕ s.sums.t1 ⊕ s.sums.s1 ⊕ real 1)

  -- R·V
  unfoldable pub isochoric_value : Float
  isochoric_value = (entry_of s.fluid).R ⊗ «V» s

  -- R·(I1 + T1 − I0 − S0)
  unfoldable pub entropy_value : Float
  entropy_value = (entry_of s.fluid).R ⊗ (i1 ⊕ s.sums.t1 ⊖ i0 ⊖ s.sums.s0)

  -- 1 + I0 + S0 + S1
  unfoldable pub gibbs_over_RT : Float
  gibbs_over_RT = real 1 ⊕ i0 ⊕ s.sums.s0 ⊕ s.sums.s1

  -- (R·T)·(1 + I0 + S0 + S1)
  unfoldable pub gibbs_value : Float
  gibbs_value = ((entry_of s.fluid).R ⊗ s.t) ⊗ gibbs_over_RT

  -- (R·T)·(I0 + S0)
  unfoldable pub helmholtz_value : Float
  helmholtz_value = ((entry_of s.fluid).R ⊗ s.t) ⊗ (i0 ⊕ s.sums.s0)
