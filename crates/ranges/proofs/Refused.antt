-- The computed tests tell entries apart: each of them is failed by an entry that differs from R-245ca's in one number.
use mathlib.Core.Path.{◌≡◌, refl}
use mathlib.Core.Bool.{false}
use Rattle.arithmetic.specs.Checked.{real}
use Rattle.ranges.proofs.Opened.{entry_opened}
use Rattle.ranges.proofs.Entry.{passes}
use Rattle.ranges.specs.Variants.{colder, steeper, thinner}
use Rattle.ranges.proofs.Top.{slice}

-- at 100 K the exponent of row 14 is under −700
pub colder_fails : passes colder ≡ false
unfolding entry_opened
colder_fails = refl

-- and so it is at 196 K with a β ten times as large
pub steeper_fails : passes steeper ≡ false
unfolding entry_opened
steeper_fails = refl

-- at 10 mol/dm³ the pressure is not above every permitted one
pub thinner_fails : slice thinner (real 196) (real 213) ≡ false
unfolding entry_opened
thinner_fails = refl
