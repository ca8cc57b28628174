-- The judge accepts exactly the saturation pairs: its tests, one by one, are what the statement spells out; that all numbers are finite then follows,
-- as no comparison holds of a NaN.
use mathlib.Core.Path.{◌≡◌, sym, ◌∙◌, ap}
use mathlib.Core.Logic.{◌↔◌}
use mathlib.Core.Bool.{Bool, true, ◌&&◌}
use lib.Ieee.{Float, lt, le}
use Rattle.std.specs.Prelude.{Ok}
use Rattle.refusals.specs.Order.{granted}
use Rattle.refusals.proofs.Tests.{and_passed}
use Rattle.refusals.proofs.InOrder.{is_granted}
use Rattle.arithmetic.specs.Checked.{real, squash, minus, ◌⊖◌}
use Rattle.arithmetic.proofs.Operations.{⊕_squashed, ⊖_squashed, ⊗_squashed}
use Rattle.arithmetic.proofs.Settled.{finite_above, finite_under, finite_parts}
use Rattle.fluids.specs.declared.Fluid.{Fluid}
use Rattle.fluids.specs.Entries.{entry_of}
use Rattle.equation.specs.declared.state.State.{State}
use Rattle.equation.specs.State.{state_at, pressure_value}
use Rattle.stability.specs.Stability.{Q}
use Rattle.values.specs.Values.{gibbs_over_RT}
use Rattle.inputs.specs.Inputs.{pair_permit}
use Rattle.coexistence.specs.Phase.{phase_of, compared_by, compared_at}
use Rattle.coexistence.specs.Judge.{ordered, all_finite, meets, near, pressure_bound, value_bound, judge_of}
use Rattle.coexistence.specs.Accepted.{SaturationPair}
use Rattle.coexistence.proofs.Judgement.{accepts_is}

-- each number of a phase is finite or `nan`
module _ (s : State) where
  pressure_settled : squash (pressure_value s) ≡ pressure_value s
  unfolding pressure_value
  pressure_settled = ⊗_squashed _ _

  value_settled : squash (gibbs_over_RT s) ≡ gibbs_over_RT s
  unfolding gibbs_over_RT
  value_settled = ⊕_squashed _ _

  q_settled : squash (Q s) ≡ Q s
  unfolding Q
  q_settled = ⊕_squashed _ _

all : {a b : Bool} → a ≡ true → b ≡ true → (a && b) ≡ true
all e f = simp (e, f)

module _ (F : Fluid) (T l v : Float) where
  -- ---- the tests, spelt out

  ordered_means : ordered F T l v ≡ true → (lt T (entry_of F).Tc ≡ true) × (lt (real 0) v ≡ true) × (lt v (entry_of F).ρc ≡ true) × (lt (entry_of F).ρc l ≡ true)
  unfolding ordered
  ordered_means e =
      let under = lt v (entry_of F).ρc in
      let over = lt (entry_of F).ρc l in
      let below = and_passed (lt T (entry_of F).Tc) (lt (real 0) v && (under && over)) e in
      let some = and_passed (lt (real 0) v) (under && over) below.1 in
      let across = and_passed under over some.1 in
      (below.0, some.0, across.0, across.1)

  -- what the phases are asked, spelt out
  abbrev L : State
  L = state_at F T l

  abbrev G : State
  G = state_at F T v

  abbrev pressures : Float
  pressures = pressure_value L ⊖ pressure_value G

  abbrev values : Float
  values = gibbs_over_RT L ⊖ gibbs_over_RT G

  meets_means :
      meets (compared_at F T l v) ≡ true →
      ((lt (real 0) (Q L) ≡ true) × (lt (real 0) (Q G) ≡ true)) × ((le (minus pressure_bound) pressures ≡ true) × (le pressures pressure_bound ≡ true)) × ((le (minus value_bound) values ≡ true) × (le values value_bound ≡ true))
  unfolding meets compared_by phase_of
  meets_means e =
      let both = and_passed (lt (real 0) (Q L) && lt (real 0) (Q G)) (near pressure_bound pressures && near value_bound values) e in
      let close = and_passed (near pressure_bound pressures) (near value_bound values) both.1 in (
        and_passed (lt (real 0) (Q L)) (lt (real 0) (Q G)) both.0,
        and_passed (le (minus pressure_bound) pressures) (le pressures pressure_bound) close.0,
        and_passed (le (minus value_bound) values) (le values value_bound) close.1,
      )

  pub accepted_means : judge_of F T l v ≡ Ok tt → SaturationPair F T l v
  accepted_means e =
      let inside = granted (pair_permit F T l v) in
      let place = ordered F T l v in
      let finite = all_finite (compared_at F T l v) in
      let met = meets (compared_at F T l v) in
      let all = and_passed (inside && place) (finite && met) (sym (accepts_is F T l v) ∙ ap granted e) in
      let before = and_passed inside place all.0 in
      let order = ordered_means before.1 in
      let phases = meets_means (and_passed finite met all.1).1 in
      record {
        in_range_lem = is_granted (pair_permit F T l v) before.0;
        is_below_critical = order.0;
        some_vapour = order.1;
        vapour_side = order.2;
        liquid_side = order.3;
        liquid_stable = phases.0.0;
        vapour_stable = phases.0.1;
        pressures_from = phases.1.0;
        pressures_to = phases.1.1;
        values_from = phases.2.0;
        values_to = phases.2.1;
      }

  module _ (p : SaturationPair F T l v) where
    in_order : ordered F T l v ≡ true
    unfolding ordered
    in_order = all p.is_below_critical (all p.some_vapour (all p.vapour_side p.liquid_side))

    worked : all_finite (compared_at F T l v) ≡ true
    unfolding all_finite compared_by phase_of
    worked =
        let apart = finite_under pressures pressure_bound (⊖_squashed (pressure_value L) (pressure_value G)) p.pressures_to in
        let beside = finite_under values value_bound (⊖_squashed (gibbs_over_RT L) (gibbs_over_RT G)) p.values_to in
        let ps = finite_parts (pressure_value L) (pressure_value G) (pressure_settled L) (pressure_settled G) apart in
        let gs = finite_parts (gibbs_over_RT L) (gibbs_over_RT G) (value_settled L) (value_settled G) beside in
        let ql = finite_above (real 0) (Q L) (q_settled L) p.liquid_stable in
        let qv = finite_above (real 0) (Q G) (q_settled G) p.vapour_stable in
        all (all (all ps.0 (all gs.0 ql)) (all ps.1 (all gs.1 qv))) (all apart beside)

    met : meets (compared_at F T l v) ≡ true
    unfolding meets compared_by phase_of
    met = all (all p.liquid_stable p.vapour_stable) (all (all p.pressures_from p.pressures_to) (all p.values_from p.values_to))

    pub pair_accepted : judge_of F T l v ≡ Ok tt
    pair_accepted = is_granted (judge_of F T l v) (accepts_is F T l v ∙ all (all (ap granted p.in_range_lem) in_order) (all worked met))

  -- accepted exactly if it is a saturation pair
  pub accepted_exactly : (judge_of F T l v ≡ (Ok tt)) ↔ SaturationPair F T l v
  accepted_exactly = (accepted_means, pair_accepted)
