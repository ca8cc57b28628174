-- A fluid's entry passes one computed test, its whole range worked as one interval, and then no value of V, K, Q and the
-- properties is anything but finite in that range: isobaric heat capacity where Q is not under 2⁻⁹³⁰, and the three with ln δ where δ is not
-- under 2⁻⁶⁰.
use mathlib.Core.Bool.{Bool, ◌&&◌}
use lib.Dec.{T}
use lib.Ieee.{Float, of_int, round, le}
use lib.Ieee.Fits.{and_l, and_r}
use lib.Ieee.Scale.{finite}
use Rattle.arithmetic.specs.Checked.{real, two⁻, between}
use Rattle.fluids.specs.declared.Fluid.{Fluid}
use Rattle.fluids.specs.Entry.{Entry}
use Rattle.fluids.specs.Entries.{entry_of}
use Rattle.equation.specs.State.{state_at, pressure_value}
use Rattle.equation.proofs.Entry.{state_is}
use Rattle.stability.specs.Stability.{«V», K, Q, isobaric_value}
use Rattle.values.specs.Values.{energy_value, enthalpy_value, isochoric_value, entropy_value, gibbs_value, helmholtz_value}
use Rattle.arithmetic.proofs.Within.{between_finite}
use Rattle.intervals.proofs.Interval.{Interval, ends, In, interval, tested, point, at, known, in_known}
use Rattle.intervals.proofs.Quotient.{◌÷◌, ◌⟨⊘⟩◌}
use Rattle.ranges.proofs.State.{State, state, state_over, InState, state_in}

-- the range of an entry
abbrev pub temperatures : Entry → Interval
temperatures E = interval E.least_T E.greatest_T

abbrev pub densities : Entry → Interval
densities E = interval (real 0) E.greatest_ρ

abbrev all_known : State → Bool
all_known (state p e h c v k q cp f g s) = known p && (known e && (known h && (known c && (known v && (known k && (known q && (known cp && (known f && (known g && known s)))))))))

abbrev reduced_densities : Entry → Interval
reduced_densities E = densities E ÷ point E.ρc

abbrev ends_finite : Entry → Bool
ends_finite E = finite E.least_T && (finite E.greatest_T && finite E.greatest_ρ)

-- the computed test
abbrev pub passes : Entry → Bool
passes E = ends_finite E && (known (reduced_densities E) && all_known (state_over E (temperatures E) (densities E)))

-- what it is worth
pub record Finite (F : Fluid) (t r : Float) : Type 0 where
  pub reduced : T (finite (state_at F t r).delta)
  pub pressure : T (finite (pressure_value (state_at F t r)))
  pub energy : T (finite (energy_value (state_at F t r)))
  pub enthalpy : T (finite (enthalpy_value (state_at F t r)))
  pub isochoric : T (finite (isochoric_value (state_at F t r)))
  pub v : T (finite («V» (state_at F t r)))
  pub k : T (finite (K (state_at F t r)))
  pub q : T (finite (Q (state_at F t r)))
  pub isobaric : T (le (two⁻ 930) (Q (state_at F t r))) → T (finite (isobaric_value (state_at F t r)))
  pub helmholtz : T (le (two⁻ 60) (state_at F t r).delta) → T (finite (helmholtz_value (state_at F t r)))
  pub gibbs : T (le (two⁻ 60) (state_at F t r).delta) → T (finite (gibbs_value (state_at F t r)))
  pub entropy : T (le (two⁻ 60) (state_at F t r).delta) → T (finite (entropy_value (state_at F t r)))

all_finite_lem : (F : Fluid) (t r : Float) (S : State) → T (all_known S) → T (finite (state_at F t r).delta) → InState (state_at F t r) S → Finite F t r
all_finite_lem F t r (state Rattle.intervals.proofs.Interval.unknown energy enthalpy isochoric _ _ _ isobaric helmholtz gibbs entropy) ok d _ = elim ok [ ]
all_finite_lem F t r (state (ends _ _) Rattle.intervals.proofs.Interval.unknown enthalpy isochoric _ _ _ isobaric helmholtz gibbs entropy) ok d _ = elim ok [ ]
all_finite_lem F t r (state (ends _ _) (ends _ _) Rattle.intervals.proofs.Interval.unknown isochoric _ _ _ isobaric helmholtz gibbs entropy) ok d _ = elim ok [ ]
all_finite_lem F t r (state (ends _ _) (ends _ _) (ends _ _) Rattle.intervals.proofs.Interval.unknown _ _ _ isobaric helmholtz gibbs entropy) ok d _ = elim ok [ ]
all_finite_lem F t r (state (ends _ _) (ends _ _) (ends _ _) (ends _ _) Rattle.intervals.proofs.Interval.unknown _ _ isobaric helmholtz gibbs entropy) ok d _ = elim ok [ ]
all_finite_lem F t r (state (ends _ _) (ends _ _) (ends _ _) (ends _ _) (ends _ _) Rattle.intervals.proofs.Interval.unknown _ isobaric helmholtz gibbs entropy) ok d _ = elim ok [ ]
all_finite_lem F t r (state (ends _ _) (ends _ _) (ends _ _) (ends _ _) (ends _ _) (ends _ _) Rattle.intervals.proofs.Interval.unknown isobaric helmholtz gibbs entropy) ok d _ = elim ok [ ]
all_finite_lem F t r (state (ends _ _) (ends _ _) (ends _ _) (ends _ _) (ends _ _) (ends _ _) (ends _ _) Rattle.intervals.proofs.Interval.unknown helmholtz gibbs entropy) ok d _ = elim ok [ ]
all_finite_lem F t r (state (ends _ _) (ends _ _) (ends _ _) (ends _ _) (ends _ _) (ends _ _) (ends _ _) (ends _ _) Rattle.intervals.proofs.Interval.unknown gibbs entropy) ok d _ = elim ok [ ]
all_finite_lem F t r (state (ends _ _) (ends _ _) (ends _ _) (ends _ _) (ends _ _) (ends _ _) (ends _ _) (ends _ _) (ends _ _) Rattle.intervals.proofs.Interval.unknown entropy) ok d _ = elim ok [ ]
all_finite_lem F t r (state (ends _ _) (ends _ _) (ends _ _) (ends _ _) (ends _ _) (ends _ _) (ends _ _) (ends _ _) (ends _ _) (ends _ _) Rattle.intervals.proofs.Interval.unknown) ok d _ = elim ok [ ]
all_finite_lem F t r (state (ends _ _) (ends _ _) (ends _ _) (ends _ _) (ends _ _) (ends _ _) (ends _ _) (ends _ _) (ends _ _) (ends _ _) (ends _ _)) ok d (p, e, h, c, v, k, q, cp, rest) = record {
  reduced = d;
  pressure = in_known tt p;
  energy = in_known tt e;
  enthalpy = in_known tt h;
  isochoric = in_known tt c;
  v = in_known tt v;
  k = in_known tt k;
  q = in_known tt q;
  isobaric = λ z. in_known tt (cp z);
  helmholtz = λ z. in_known tt (rest z).0;
  gibbs = λ z. in_known tt (rest z).1;
  entropy = λ z. in_known tt (rest z).2;
}

finite_0 : T (finite (real 0))
unfolding of_int round
finite_0 = tt

module _ (F : Fluid) (ok : T (passes (entry_of F))) (t r : Float) where
  rest : T (known (reduced_densities (entry_of F)) && all_known (state_over (entry_of F) (temperatures (entry_of F)) (densities (entry_of F))))
  rest = and_r (ends_finite (entry_of F)) (known (reduced_densities (entry_of F)) && all_known (state_over (entry_of F) (temperatures (entry_of F)) (densities (entry_of F)))) ok

  ends_finite_lem : T (finite (entry_of F).least_T) × T (finite (entry_of F).greatest_T) × T (finite (entry_of F).greatest_ρ)
  ends_finite_lem =
      let e = and_l (ends_finite (entry_of F)) (known (reduced_densities (entry_of F)) && all_known (state_over (entry_of F) (temperatures (entry_of F)) (densities (entry_of F)))) ok in
      let upper = and_r (finite (entry_of F).least_T) (finite (entry_of F).greatest_T && finite (entry_of F).greatest_ρ) e in (
        and_l (finite (entry_of F).least_T) (finite (entry_of F).greatest_T && finite (entry_of F).greatest_ρ) e,
        and_l (finite (entry_of F).greatest_T) (finite (entry_of F).greatest_ρ) upper,
        and_r (finite (entry_of F).greatest_T) (finite (entry_of F).greatest_ρ) upper,
      )

  pub temperature_in : T (between (entry_of F).least_T t (entry_of F).greatest_T) → In (temperatures (entry_of F)) t
  temperature_in h =
      tested (entry_of F).least_T (entry_of F).greatest_T t ends_finite_lem.0 ends_finite_lem.1
      (and_l (le (entry_of F).least_T t) (le t (entry_of F).greatest_T) h) (and_r (le (entry_of F).least_T t) (le t (entry_of F).greatest_T) h)

  pub temperature_finite : T (between (entry_of F).least_T t (entry_of F).greatest_T) → T (finite t)
  temperature_finite h =
      between_finite (entry_of F).least_T t (entry_of F).greatest_T ends_finite_lem.0 ends_finite_lem.1
      (and_l (le (entry_of F).least_T t) (le t (entry_of F).greatest_T) h) (and_r (le (entry_of F).least_T t) (le t (entry_of F).greatest_T) h)

  pub density_in : T (between (real 0) r (entry_of F).greatest_ρ) → In (densities (entry_of F)) r
  density_in h =
      tested (real 0) (entry_of F).greatest_ρ r finite_0 ends_finite_lem.2
      (and_l (le (real 0) r) (le r (entry_of F).greatest_ρ) h) (and_r (le (real 0) r) (le r (entry_of F).greatest_ρ) h)

  pub finite_in_range : T (between (entry_of F).least_T t (entry_of F).greatest_T) → T (between (real 0) r (entry_of F).greatest_ρ) → Finite F t r
  finite_in_range h k =
      let S = state_over (entry_of F) (temperatures (entry_of F)) (densities (entry_of F)) in
      all_finite_lem F t r S (and_r (known (reduced_densities (entry_of F))) (all_known S) rest)
      (rw state_is (in_known (and_l (known (reduced_densities (entry_of F))) (all_known S) rest) (density_in k ⟨⊘⟩ at (entry_of F).ρc)))
      (state_in F t r (temperature_in h) (density_in k))
