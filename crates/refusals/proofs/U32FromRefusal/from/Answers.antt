-- `code` meets its contract, refusal by refusal. Assumes nothing.
use mathlib.Core.Path.{refl}
use Rattle.refusals.proofs.U32FromRefusal.from.Goals as goal

pub returns-in-NoReading : goal.returns-in-NoReading
returns-in-NoReading c = rw c.in-NoReading.is refl

pub returns-in-InputNotFinite : goal.returns-in-InputNotFinite
returns-in-InputNotFinite c = rw c.in-InputNotFinite.is refl

pub returns-in-TemperatureOutside : goal.returns-in-TemperatureOutside
returns-in-TemperatureOutside c = rw c.in-TemperatureOutside.is refl

pub returns-in-DensityOutside : goal.returns-in-DensityOutside
returns-in-DensityOutside c = rw c.in-DensityOutside.is refl

pub returns-in-PressureOutside : goal.returns-in-PressureOutside
returns-in-PressureOutside c = rw c.in-PressureOutside.is refl

pub returns-in-TopOutside : goal.returns-in-TopOutside
returns-in-TopOutside c = rw c.in-TopOutside.is refl

pub returns-in-TooShort : goal.returns-in-TooShort
returns-in-TooShort c = rw c.in-TooShort.is refl

pub returns-in-NoCell : goal.returns-in-NoCell
returns-in-NoCell c = rw c.in-NoCell.is refl

pub returns-in-NotEnclosed : goal.returns-in-NotEnclosed
returns-in-NotEnclosed c = rw c.in-NotEnclosed.is refl

pub returns-in-NotNeighbours : goal.returns-in-NotNeighbours
returns-in-NotNeighbours c = rw c.in-NotNeighbours.is refl

pub returns-in-AtZeroDensity : goal.returns-in-AtZeroDensity
returns-in-AtZeroDensity c = rw c.in-AtZeroDensity.is refl

pub returns-in-NotStable : goal.returns-in-NotStable
returns-in-NotStable c = rw c.in-NotStable.is refl

pub returns-in-WorkNotFinite : goal.returns-in-WorkNotFinite
returns-in-WorkNotFinite c = rw c.in-WorkNotFinite.is refl

pub returns-in-AboveCritical : goal.returns-in-AboveCritical
returns-in-AboveCritical c = rw c.in-AboveCritical.is refl

pub returns-in-UnknownMark : goal.returns-in-UnknownMark
returns-in-UnknownMark c = rw c.in-UnknownMark.is refl

pub returns-in-CutShort : goal.returns-in-CutShort
returns-in-CutShort c = rw c.in-CutShort.is refl

pub returns-in-UnknownFluid : goal.returns-in-UnknownFluid
returns-in-UnknownFluid c = rw c.in-UnknownFluid.is refl

pub returns-in-TooManyRecords : goal.returns-in-TooManyRecords
returns-in-TooManyRecords c = rw c.in-TooManyRecords.is refl

pub returns-in-NotAccepted : goal.returns-in-NotAccepted
returns-in-NotAccepted c = rw c.in-NotAccepted.is refl

pub returns-in-GaveUp : goal.returns-in-GaveUp
returns-in-GaveUp c = rw c.in-GaveUp.is refl
