-- What is worked at a state, over intervals of T, ρ and δ, for any fluid: the ideal part, V, K, Q, and every property but sound speed.
use mathlib.Core.List.{List}
use Prim.Native.Nat.{ℕ, zero, suc}
use lib.Dec.{T}
use lib.ListN.{get_or, length}
use lib.Ieee.{Float, nan, binary64, round, fits, le}
use lib.Ieee.Scale.{finite}
use Rattle.arithmetic.specs.Checked.{real, two⁻, ◌⊖◌, ◌⊘◌}
use Rattle.logarithms.specs.Ln.{ln_of}
use Rattle.arithmetic.proofs.Forced.{forced}
use Rattle.arithmetic.proofs.Operations.{⊕_squashed}
use Rattle.logarithms.proofs.Literals.{finite_two⁻60}
use Rattle.fluids.specs.declared.Pair.{Pair}
use Rattle.fluids.specs.declared.Fluid.{Fluid}
use Rattle.fluids.specs.Entry.{Entry}
use Rattle.fluids.specs.Entries.{entry_of}
use Rattle.ideal.specs.Ideal.{part0, part1, part2, total_to, total_of, I0, I1, I2}
use Rattle.equation.specs.declared.state.State.{State as Worked}
use Rattle.equation.specs.State.{state_at, pressure_value}
use Rattle.equation.proofs.Entry.{state_by, state_is}
use Rattle.stability.specs.Stability.{«V», K, Q, stability_of, isobaric_from, isobaric_value}
use Rattle.values.specs.Values.{i0, i1, energy_value, enthalpy_value, isochoric_value, entropy_value, gibbs_over_RT, gibbs_value, helmholtz_value}
use Rattle.intervals.proofs.Representable.{difference_fits, quotient_fits}
use Rattle.intervals.proofs.Interval.{Interval, In, point, at, from_on, from_on_in, ◌▶◌, computed}
use Rattle.intervals.proofs.Sum.{◌⊞◌, ◌⊟◌, negated, ◌⟨⊕⟩◌, ◌⟨⊖⟩◌, ⟨minus⟩}
use Rattle.intervals.proofs.Product.{◌⊠◌, ◌⟨⊗⟩◌}
use Rattle.intervals.proofs.Quotient.{◌÷◌, ◌⟨⊘⟩◌}
use Rattle.intervals.proofs.Functions.{exp_over, ⟨exp⟩}
use Rattle.intervals.proofs.Logarithm.{ln_over, ⟨ln⟩}
use Rattle.ranges.proofs.Rows.{SumsOver, six, InSums, sums_over, sums_in}

-- ---- the ideal part's sums
unfoldable pub part0_over : Interval → Pair → Interval
part0_over Θ p = point p.v ⊠ ln_over (point (real 1) ⊟ exp_over (negated (point p.u ÷ Θ)))

unfoldable pub part1_over : Interval → Pair → Interval
part1_over Θ p = point p.u ÷ Θ ▶ λ B. exp_over B ▶ λ W. point p.v ⊠ B ÷ (W ⊟ point (real 1))

unfoldable pub part2_over : Interval → Pair → Interval
part2_over Θ p = point p.u ÷ Θ ▶ λ B. exp_over B ▶ λ W. point p.v ⊠ B ⊠ B ⊠ W ÷ ((W ⊟ point (real 1)) ⊠ (W ⊟ point (real 1)))

module _ {Θ : Interval} {t : Float} (a : In Θ t) (p : Pair) where
  part0_in : In (part0_over Θ p) (part0 t p)
  unfolding part0_over part0
  part0_in = at p.v ⟨⊗⟩ ⟨ln⟩ (difference_fits _ _) (at (real 1) ⟨⊖⟩ ⟨exp⟩ (⟨minus⟩ (at p.u ⟨⊘⟩ a)))

  part1_in : In (part1_over Θ p) (part1 t p)
  unfolding part1_over part1
  part1_in =
      let b = at p.u ⟨⊘⟩ a in
      simp (computed, forced) (at p.v ⟨⊗⟩ b ⟨⊘⟩ (⟨exp⟩ b ⟨⊖⟩ at (real 1)))

  part2_in : In (part2_over Θ p) (part2 t p)
  unfolding part2_over part2
  part2_in =
      let b = at p.u ⟨⊘⟩ a in
      let w = ⟨exp⟩ b in
      let w1 = w ⟨⊖⟩ at (real 1) in
      simp (computed, forced) (at p.v ⟨⊗⟩ b ⟨⊗⟩ b ⟨⊗⟩ w ⟨⊘⟩ (w1 ⟨⊗⟩ w1))

unfoldable pub total_to_over : (Pair → Interval) → List Pair → ℕ → Interval
total_to_over part pairs zero = point (real 0)
total_to_over part pairs (suc i) = total_to_over part pairs i ▶ λ S. S ⊞ part (get_or pairs i (record { v = nan; u = nan }))

total_in : (part_I : Pair → Interval) (part : Pair → Float) → ((p : Pair) → In (part_I p) (part p)) → (pairs : List Pair) (i : ℕ) → In (total_to_over part_I pairs i) (total_to part pairs i)
unfolding total_to_over total_to
total_in part_I part each pairs zero = at (real 0)
total_in part_I part each pairs (suc i) = simp (computed, forced) (total_in part_I part each pairs i ⟨⊕⟩ each (get_or pairs i (record { v = nan; u = nan })))

module _ (E : Entry) where
  abbrev pub total : (Interval → Pair → Interval) → Interval → Interval
  total part Θ = total_to_over (part Θ) E.pairs (length E.pairs)

  unfoldable pub I0Over : Interval → Interval → Interval → Interval → Interval
  I0Over Θ U Y Δ = point E.a1 ⊞ point E.a2 ⊠ U ⊞ ln_over Δ ⊞ (point E.c0 ⊟ point (real 1)) ⊠ Y ⊞ total part0_over Θ

  unfoldable pub I1Over : Interval → Interval → Interval
  I1Over Θ U = point E.a2 ⊠ U ⊞ (point E.c0 ⊟ point (real 1)) ⊞ total part1_over Θ

  unfoldable pub I2Over : Interval → Interval
  I2Over Θ = (point E.c0 ⊟ point (real 1)) ⊞ total part2_over Θ

module _ {Θ U : Interval} (F : Fluid) (t : Float) (a : In Θ t) (u : In U ((entry_of F).Tc ⊘ t)) where
  c_in : In (point (entry_of F).c0 ⊟ point (real 1)) ((entry_of F).c0 ⊖ real 1)
  c_in = at (entry_of F).c0 ⟨⊖⟩ at (real 1)

  I0_in : {Y Δ : Interval} {d : Float} → In Y (ln_of ((entry_of F).Tc ⊘ t)) → T (fits binary64 d) → In Δ d → In (I0Over (entry_of F) Θ U Y Δ) (I0 F t ((entry_of F).Tc ⊘ t) (ln_of ((entry_of F).Tc ⊘ t)) d)
  unfolding I0Over I0 total_of
  I0_in y f d = at (entry_of F).a1 ⟨⊕⟩ at (entry_of F).a2 ⟨⊗⟩ u ⟨⊕⟩ ⟨ln⟩ f d ⟨⊕⟩ c_in ⟨⊗⟩ y ⟨⊕⟩ total_in (part0_over Θ) (part0 t) (part0_in a) (entry_of F).pairs (length (entry_of F).pairs)

  I1_in : In (I1Over (entry_of F) Θ U) (I1 F t ((entry_of F).Tc ⊘ t))
  unfolding I1Over I1 total_of
  I1_in = at (entry_of F).a2 ⟨⊗⟩ u ⟨⊕⟩ c_in ⟨⊕⟩ total_in (part1_over Θ) (part1 t) (part1_in a) (entry_of F).pairs (length (entry_of F).pairs)

  I2_in : In (I2Over (entry_of F) Θ) (I2 F t)
  unfolding I2Over I2 total_of
  I2_in = c_in ⟨⊕⟩ total_in (part2_over Θ) (part2 t) (part2_in a) (entry_of F).pairs (length (entry_of F).pairs)

-- ---- a state
finite_two⁻930 : T (finite (two⁻ 930))
unfolding round
finite_two⁻930 = tt

pub data State : Type 0 where
  state : (pressure energy enthalpy isochoric V' K' Q' isobaric helmholtz gibbs entropy : Interval) → State

unfoldable pub finished : Entry → Interval → Interval → SumsOver → Interval → Interval → Interval → State
finished E Θ Ρ (six S0 S1 S2 T1 T2 ST) J0 J1 J2 =
    point E.R ⊠ Θ ▶ λ RT.
    J2 ⊟ T2 ▶ λ V'.
    point (real 1) ⊞ S1 ⊟ ST ▶ λ K'.
    point (real 1) ⊞ point (real 2) ⊠ S1 ⊞ S2 ▶ λ Q'.
    state
    (((Ρ ⊠ point (real 1000)) ⊠ RT) ⊠ (point (real 1) ⊞ S1))
    (RT ⊠ (J1 ⊞ T1))
    (RT ⊠ (J1 ⊞ T1 ⊞ S1 ⊞ point (real 1)))
    (point E.R ⊠ V')
    V'
    K'
    Q'
    (point E.R ⊠ (V' ⊞ K' ⊠ K' ÷ from_on (two⁻ 930) Q'))
    (RT ⊠ (J0 ⊞ S0))
    (RT ⊠ (point (real 1) ⊞ J0 ⊞ S0 ⊞ S1))
    (point E.R ⊠ (J1 ⊞ T1 ⊟ J0 ⊟ S0))

unfoldable pub state_over : Entry → Interval → Interval → State
state_over E Θ Ρ =
    point E.Tc ÷ Θ ▶ λ U.
    ln_over U ▶ λ Y.
    Ρ ÷ point E.ρc ▶ λ Δ.
    I0Over E Θ U Y (from_on (two⁻ 60) Δ) ▶ λ J0.
    I1Over E Θ U ▶ λ J1.
    I2Over E Θ ▶ λ J2.
    finished E Θ Ρ (sums_over E Δ U Y) J0 J1 J2

module _ (s : Worked) where
  -- isobaric heat capacity where Q is not under 2⁻⁹³⁰, and the three with ln δ where δ is not under 2⁻⁶⁰
  abbrev pub InState : State → Type 0
  InState (state p e h c v k q cp f g z) =
      In p (pressure_value s) × In e (energy_value s) × In h (enthalpy_value s) × In c (isochoric_value s)
      × In v («V» s) × In k (K s) × In q (Q s)
      × (T (le (two⁻ 930) (Q s)) → In cp (isobaric_value s))
      × (T (le (two⁻ 60) s.delta) → In f (helmholtz_value s) × In g (gibbs_value s) × In z (entropy_value s))

  finished_in :
      {Θ Ρ : Interval} → In Θ s.t → In Ρ s.rho → (S : SumsOver) {J0 J1 J2 : Interval} → InSums S s.sums →
      (T (le (two⁻ 60) s.delta) → In J0 (i0 s)) → In J1 (i1 s) → In J2 (I2 s.fluid s.t) →
      InState (finished (entry_of s.fluid) Θ Ρ S J0 J1 J2)
  unfolding finished pressure_value energy_value enthalpy_value isochoric_value «V» K Q stability_of isobaric_from isobaric_value helmholtz_value gibbs_over_RT gibbs_value entropy_value
  finished_in a b (six S0 S1 S2 T1 T2 ST) (s0, s1, s2, t1, t2, st) j0 j1 j2 =
      let R = at (entry_of s.fluid).R in
      let rt = R ⟨⊗⟩ a in
      let one = at (real 1) in
      let v = j2 ⟨⊖⟩ t2 in
      let k = one ⟨⊕⟩ s1 ⟨⊖⟩ st in
      let q = one ⟨⊕⟩ at (real 2) ⟨⊗⟩ s1 ⟨⊕⟩ s2 in
      simp (computed, ⊕_squashed) (
        ((b ⟨⊗⟩ at (real 1000)) ⟨⊗⟩ rt) ⟨⊗⟩ (one ⟨⊕⟩ s1),
        rt ⟨⊗⟩ (j1 ⟨⊕⟩ t1),
        rt ⟨⊗⟩ (j1 ⟨⊕⟩ t1 ⟨⊕⟩ s1 ⟨⊕⟩ one),
        R ⟨⊗⟩ v,
        v,
        k,
        q,
        (λ h. R ⟨⊗⟩ (v ⟨⊕⟩ k ⟨⊗⟩ k ⟨⊘⟩ from_on_in (two⁻ 930) _ finite_two⁻930 h q)),
        λ h. (
          rt ⟨⊗⟩ (j0 h ⟨⊕⟩ s0),
          rt ⟨⊗⟩ (one ⟨⊕⟩ j0 h ⟨⊕⟩ s0 ⟨⊕⟩ s1),
          R ⟨⊗⟩ (j1 ⟨⊕⟩ t1 ⟨⊖⟩ j0 h ⟨⊖⟩ s0),
        ),
      )

module _ (F : Fluid) (t r : Float) {Θ Ρ : Interval} (a : In Θ t) (b : In Ρ r) where
  pub state_in : InState (state_at F t r) (state_over (entry_of F) Θ Ρ)
  unfolding state_over
  state_in =
      let E = entry_of F in
      let u = at E.Tc ⟨⊘⟩ a in
      let y = ⟨ln⟩ (quotient_fits E.Tc t) u in
      let d = b ⟨⊘⟩ at E.ρc in
      rw state_is
      (simp computed
      (finished_in (state_by F t r) a b (sums_over E (Ρ ÷ point E.ρc) (point E.Tc ÷ Θ) (ln_over (point E.Tc ÷ Θ)))
      (sums_in F t d u y)
      (λ h. unfold i0 in I0_in F t a u y (quotient_fits r E.ρc) (from_on_in (two⁻ 60) (r ⊘ E.ρc) finite_two⁻60 h d))
      (unfold i1 in I1_in F t a u)
      (I2_in F t a u)))
