-- R-245ca passes the computed tests of an entry: no value in its range is anything but finite, and at its top the pressure is above
-- every permitted one.
use lib.Dec.{T}
use lib.Ieee.{of_int, round}
use Rattle.arithmetic.specs.Checked.{real}
use Rattle.fluids.specs.declared.Fluid.TheVariants.{R245ca}
use Rattle.fluids.specs.R245ca.{r245ca}
use Rattle.fluids.specs.Entries.{entry_of}
use Rattle.ranges.proofs.Opened.{entry_opened}
use Rattle.ranges.proofs.Entry.{passes}
use Rattle.ranges.proofs.Estimates.{estimates_known, estimate_ends}
use Rattle.ranges.proofs.Top.{Rises, slice, slice_rises, joined}

pub r245ca_passes : T (passes r245ca)
unfolding entry_opened
r245ca_passes = tt

-- five slices of temperature
from_196_to_283 : T (slice r245ca (real 196) (real 213)) × T (slice r245ca (real 213) (real 240)) × T (slice r245ca (real 240) (real 283))
unfolding entry_opened
from_196_to_283 = (tt, tt, tt)

from_283_to_450 : T (slice r245ca (real 283) (real 345)) × T (slice r245ca (real 345) (real 450))
unfolding entry_opened
from_283_to_450 = (tt, tt)

pub r245ca_rises : Rises R245ca r245ca.least_T r245ca.greatest_T
unfolding entry_of r245ca of_int round
r245ca_rises =
    joined R245ca (real 196) (real 213) (real 450) tt (slice_rises R245ca (real 196) (real 213) from_196_to_283.0)
    (joined R245ca (real 213) (real 240) (real 450) tt (slice_rises R245ca (real 213) (real 240) from_196_to_283.1)
    (joined R245ca (real 240) (real 283) (real 450) tt (slice_rises R245ca (real 240) (real 283) from_196_to_283.2)
    (joined R245ca (real 283) (real 345) (real 450) tt (slice_rises R245ca (real 283) (real 345) from_283_to_450.0)
    (slice_rises R245ca (real 345) (real 450) from_283_to_450.1))))

-- the saturation estimates
pub r245ca_estimate_ends : T (estimate_ends r245ca)
unfolding entry_opened
r245ca_estimate_ends = tt

pub r245ca_estimates : T (estimates_known r245ca)
unfolding entry_opened
r245ca_estimates = tt
