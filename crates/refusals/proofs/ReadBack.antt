-- A code says which refusal it is of, and 0 that there is none: it is read back by its number.
use mathlib.Core.Path.{◌≡◌, refl, sym, ◌∙◌, ap}
use mathlib.Core.Bool.{cond}
use Prim.Native.Nat.{ℕ}
use lib.Dec.{eqb}
use Rattle.std.specs.Prelude.{Ok, Err}
use Rattle.refusals.specs.declared.Refusal.TheVariants.{NoReading, InputNotFinite, TemperatureOutside, DensityOutside, PressureOutside, TopOutside, TooShort, NoCell, NotEnclosed, NotNeighbours, AtZeroDensity, NotStable, WorkNotFinite, AboveCritical, UnknownMark, CutShort, UnknownFluid, TooManyRecords, NotAccepted, GaveUp}
use Rattle.refusals.specs.Answer.{Permit}
use Rattle.refusals.specs.Code.{answer_code_of}

read_back : ℕ → Permit
read_back n =
    cond (eqb n 0) (Ok tt)
    (cond (eqb n 1) (Err NoReading)
    (cond (eqb n 2) (Err InputNotFinite)
    (cond (eqb n 3) (Err TemperatureOutside)
    (cond (eqb n 4) (Err DensityOutside)
    (cond (eqb n 5) (Err PressureOutside)
    (cond (eqb n 6) (Err TopOutside)
    (cond (eqb n 7) (Err TooShort)
    (cond (eqb n 8) (Err NoCell)
    (cond (eqb n 16) (Err NotEnclosed)
    (cond (eqb n 9) (Err NotNeighbours)
    (cond (eqb n 10) (Err AtZeroDensity)
    (cond (eqb n 11) (Err NotStable)
    (cond (eqb n 12) (Err WorkNotFinite)
    (cond (eqb n 13) (Err AboveCritical)
    (cond (eqb n 14) (Err UnknownMark)
    (cond (eqb n 15) (Err CutShort)
    (cond (eqb n 17) (Err UnknownFluid)
    (cond (eqb n 18) (Err TooManyRecords)
    (cond (eqb n 19) (Err NotAccepted)
    (Err GaveUp))))))))))))))))))))

again : (p : Permit) → read_back (answer_code_of p) ≡ p
unfolding read_back
again (Ok _) = refl
again (Err NoReading) = refl
again (Err InputNotFinite) = refl
again (Err TemperatureOutside) = refl
again (Err DensityOutside) = refl
again (Err PressureOutside) = refl
again (Err TopOutside) = refl
again (Err TooShort) = refl
again (Err NoCell) = refl
again (Err NotEnclosed) = refl
again (Err NotNeighbours) = refl
again (Err AtZeroDensity) = refl
again (Err NotStable) = refl
again (Err WorkNotFinite) = refl
again (Err AboveCritical) = refl
again (Err UnknownMark) = refl
again (Err CutShort) = refl
again (Err UnknownFluid) = refl
again (Err TooManyRecords) = refl
again (Err NotAccepted) = refl
again (Err GaveUp) = refl

pub same_permit : {p q : Permit} → answer_code_of p ≡ answer_code_of q → p ≡ q
same_permit {p} {q} e = sym (again p) ∙ ap read_back e ∙ again q
