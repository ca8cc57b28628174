-- What a granted permit says of a state, and that no permit of the inputs denies with 12.
use mathlib.Core.Path.{◌≡◌, refl, subst}
use mathlib.Core.Bool.{Bool, true, false, cond}
use lib.Dec.{T}
use lib.Ieee.{Float, nan, inf, fin, le, lt, eq, of_int, round}
use lib.Ieee.Fits.{and_i, and_l, and_r}
use lib.Ieee.Scale.{finite}
use Rattle.std.specs.Prelude.{Ok, Err}
use Rattle.refusals.specs.declared.Refusal.TheVariants.{WorkNotFinite}
use Rattle.refusals.specs.Answer.{Permit}
use Rattle.refusals.specs.Order.{permitted}
use Rattle.refusals.proofs.Needed.{permitted_granted}
use Rattle.arithmetic.specs.Checked.{real, between}
use Rattle.refusals.proofs.InOrder.{never_denied}
use Rattle.arithmetic.specs.Answered.{answer_from}
use Rattle.arithmetic.proofs.Answered.{answer_from_finite}
use Rattle.arithmetic.proofs.Order.{le_trans}
use Rattle.fluids.specs.declared.Fluid.{Fluid}
use Rattle.fluids.specs.Entries.{entry_of}
use Rattle.properties.specs.Calls.{worked_density}
use Rattle.inputs.specs.Inputs.{state_tests, potential_tests, state_permit, potential_permit}
use Rattle.inputs.proofs.Passed.{state_passed}
use Rattle.intervals.proofs.Fractions.{holds, is_true}

-- ---- an answer is 12 only where the permit is granted and the value is not finite
pub refused_granted : (p : Permit) (v : Float) → (p ≡ Err WorkNotFinite → ⊥) → permitted p (answer_from v) ≡ Err WorkNotFinite → (p ≡ Ok tt) × (finite v ≡ false)
refused_granted (Ok _) nan n e = (refl, refl)
refused_granted (Ok _) (inf s) n e = (refl, refl)
refused_granted (Ok _) (fin s m d) n e = (refl, cc)
refused_granted (Err r) v n e = absurd (n (cc))

pub answered : (p : Permit) (v : Float) → p ≡ Ok tt → T (finite v) → permitted p (answer_from v) ≡ Ok v
answered p v g f = rw (permitted_granted p (answer_from v) g) (answer_from_finite v (is_true (finite v) f))

-- a value that is finite wherever the permit is granted is never 12
pub never_12 : (p : Permit) (v : Float) → (p ≡ Err WorkNotFinite → ⊥) → (p ≡ Ok tt → T (finite v)) → permitted p (answer_from v) ≡ Err WorkNotFinite → ⊥
never_12 p v n f e = let (g, b) = refused_granted p v n e in subst T b (f g)

-- ---- a permitted state
module _ (F : Fluid) (t ρ : Float) where
  pub state_denied : state_permit F t ρ ≡ Err WorkNotFinite → ⊥
  unfolding state_permit
  state_denied = never_denied WorkNotFinite (state_tests F t ρ) tt

  pub potential_denied : potential_permit F t ρ ≡ Err WorkNotFinite → ⊥
  unfolding potential_permit
  potential_denied = never_denied WorkNotFinite (potential_tests F t ρ) tt

  pub state_granted : state_permit F t ρ ≡ Ok tt → T (between (entry_of F).least_T t (entry_of F).greatest_T) × T (between (real 0) ρ (entry_of F).greatest_ρ)
  state_granted p =
      let (numbers, (temperature, (density, none))) = state_passed F t ρ p in
      (holds (between (entry_of F).least_T t (entry_of F).greatest_T) temperature, holds (between (real 0) ρ (entry_of F).greatest_ρ) density)

  -- a density of minus zero is worked as +0, which is in the range too
  pub worked_in_range : T (between (real 0) ρ (entry_of F).greatest_ρ) → T (between (real 0) (worked_density ρ) (entry_of F).greatest_ρ)
  unfolding worked_density
  worked_in_range h = go (eq ρ (real 0))
    where
      zero_in : T (le (real 0) (real 0))
      zero_in = unfold of_int round le lt eq in tt

      go : (b : Bool) → T (between (real 0) (cond b (real 0) ρ) (entry_of F).greatest_ρ)
      go true =
          and_i (le (real 0) (real 0)) (le (real 0) (entry_of F).greatest_ρ) zero_in
          (holds (le (real 0) (entry_of F).greatest_ρ)
          (le_trans (real 0) ρ (entry_of F).greatest_ρ
          (is_true (le (real 0) ρ) (and_l (le (real 0) ρ) (le ρ (entry_of F).greatest_ρ) h)) (is_true (le ρ (entry_of F).greatest_ρ) (and_r (le (real 0) ρ) (le ρ (entry_of F).greatest_ρ) h))))
      go false = h
