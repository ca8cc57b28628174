-- In range the pressure's call gives a finite number or 12, and at density 0 it gives +0 or 12.
use mathlib.Core.Path.{◌≡◌, refl, sym, ◌∙◌, ap, subst}
use mathlib.Core.Bool.{true, false, ◌&&◌}
use mathlib.Core.Logic.{◌⊎◌, inl, inr}
use lib.Dec.{T}
use lib.Ieee.{Float, nan, inf, fin, le, eq, of_int, round}
use lib.Ieee.Fits.{and_l, and_r}
use lib.Ieee.Scale.{finite}
use lib.Ieee.Positive.{positive}
use lib.Ieee.Positive as Positive
use Rattle.std.specs.Prelude.{Ok, Err}
use Rattle.refusals.specs.declared.Refusal.TheVariants.{WorkNotFinite}
use Rattle.refusals.specs.Answer.{Answer}
use Rattle.refusals.proofs.Needed.{permitted_granted}
use Rattle.refusals.proofs.Tests.{holds}
use Rattle.arithmetic.specs.Checked.{real, squash, between, ◌⊗◌}
use Rattle.arithmetic.specs.Answered.{answer_from}
use Rattle.arithmetic.proofs.Zeros.{Vanishes, PlusZero, NotNegative, product_not_negative}
use Rattle.fluids.specs.declared.Fluid.{Fluid}
use Rattle.fluids.specs.Entries.{entry_of}
use Rattle.fluids.proofs.Sound.{sound}
use Rattle.kept.specs.Kept.{kept_of}
use Rattle.equation.specs.State.{pressure_at}
use Rattle.kept.proofs.Parts.{kept_fluid, kept_t}
use Rattle.equation.proofs.Laws.{pressure_at_0}
use Rattle.properties.specs.Calls.{worked_density, pressure_of}
use Rattle.inputs.specs.Inputs.{state_permit}
use Rattle.properties.proofs.Permits.{state_temperature}

number_or_12 : (v : Float) → ((x : Float) × T (finite x) × (answer_from v ≡ Ok x)) ⊎ (answer_from v ≡ Err WorkNotFinite)
number_or_12 nan = inr refl
number_or_12 (inf s) = inr refl
number_or_12 (fin s m e) = inl (fin s m e, tt, refl)

module _ (F : Fluid) (t ρ : Float) (granted : state_permit F t ρ ≡ (Ok tt)) where
  worked : pressure_of F t ρ ≡ answer_from (pressure_at (kept_of F t) (worked_density ρ))
  unfolding pressure_of pressure_at
  worked = permitted_granted _ _ granted

  -- in range the pressure is a finite number, or 12
  pub pressure_answers : ((x : Float) × T (finite x) × (pressure_of F t ρ ≡ Ok x)) ⊎ (pressure_of F t ρ ≡ Err WorkNotFinite)
  pressure_answers = subst (λ (a : Answer). ((x : Float) × T (finite x) × (a ≡ Ok x)) ⊎ (a ≡ Err WorkNotFinite)) (sym worked) (number_or_12 (pressure_at (kept_of F t) (worked_density ρ)))

-- at density 0 it is +0, or 12
positive_not_negative : (x : Float) → T (positive x) → NotNegative x
positive_not_negative nan p = elim p [ ]
positive_not_negative (inf _) p = elim p [ ]
positive_not_negative (fin true m e) p = elim p [ ]
positive_not_negative (fin false m e) p = refl

zero_vanishes : Vanishes (squash (real 0))
unfolding of_int round
zero_vanishes = refl

temperature_positive : (F : Fluid) (t : Float) → between (entry_of F).least_T t (entry_of F).greatest_T ≡ true → T (positive t)
temperature_positive F t p =
    let least = le (entry_of F).least_T t in
    let greatest = le t (entry_of F).greatest_T in
    let inside = holds (least && greatest) p in
    Positive.between (entry_of F).least_T t (entry_of F).greatest_T (sound F).least_T (sound F).greatest_T
    (and_l least greatest inside)
    (and_r least greatest inside)

zero_answer : (v : Float) → PlusZero v → (answer_from v ≡ Ok (real 0)) ⊎ (answer_from v ≡ Err WorkNotFinite)
unfolding of_int round
zero_answer v (inl p) = inl (rw p refl)
zero_answer v (inr p) = inr (rw p refl)

worked_0 : worked_density (real 0) ≡ real 0
unfolding worked_density eq of_int round
worked_0 = refl

module _ (F : Fluid) (t : Float) (g : state_permit F t (real 0) ≡ (Ok tt)) where
  amount : NotNegative ((entry_of F).R ⊗ t)
  amount =
      product_not_negative (entry_of F).R t (positive_not_negative (entry_of F).R (sound F).positive_R)
      (positive_not_negative t (temperature_positive F t (state_temperature F t (real 0) g)))

  vanishes : PlusZero (pressure_at (kept_of F t) (real 0))
  vanishes = pressure_at_0 (kept_of F t) (rw (kept_fluid, (sound F).zero_δ) zero_vanishes) (rw (kept_fluid, kept_t) amount)

  pub pressure_at_zero_density : (pressure_of F t (real 0) ≡ Ok (real 0)) ⊎ (pressure_of F t (real 0) ≡ Err WorkNotFinite)
  pressure_at_zero_density =
      subst (λ (a : Answer). (a ≡ Ok (real 0)) ⊎ (a ≡ Err WorkNotFinite))
      (sym (worked F t (real 0) g ∙ ap (λ (ρ : Float). answer_from (pressure_at (kept_of F t) ρ)) worked_0))
      (zero_answer _ vanishes)
