-- R-245fa passes the computed tests of an entry: no value in its range is anything but finite, and at its top the pressure is above
-- every permitted one.
use lib.Dec.{T}
use lib.Ieee.{of_int, round}
use Rattle.arithmetic.specs.Checked.{real}
use Rattle.fluids.specs.declared.Fluid.TheVariants.{R245fa}
use Rattle.fluids.specs.R245fa.{r245fa}
use Rattle.fluids.specs.Entries.{entry_of}
use Rattle.ranges.proofs.Opened.{entry_opened}
use Rattle.ranges.proofs.Entry.{passes}
use Rattle.ranges.proofs.Estimates.{estimates_known, estimate_ends}
use Rattle.ranges.proofs.Top.{Rises, slice, slice_rises, joined}

pub r245fa_passes : T (passes r245fa)
unfolding entry_opened
r245fa_passes = tt

-- slices of temperature
slices : T (slice r245fa (real 170) (real 230)) × T (slice r245fa (real 230) (real 310)) × T (slice r245fa (real 310) (real 440))
unfolding entry_opened
slices = (tt, tt, tt)

pub r245fa_rises : Rises R245fa r245fa.least_T r245fa.greatest_T
unfolding entry_of r245fa of_int round
r245fa_rises =
    joined R245fa (real 170) (real 230) (real 440) tt (slice_rises R245fa (real 170) (real 230) slices.0)
    (joined R245fa (real 230) (real 310) (real 440) tt (slice_rises R245fa (real 230) (real 310) slices.1)
    (slice_rises R245fa (real 310) (real 440) slices.2))

-- the saturation estimates
pub r245fa_estimate_ends : T (estimate_ends r245fa)
unfolding entry_opened
r245fa_estimate_ends = tt

pub r245fa_estimates : T (estimates_known r245fa)
unfolding entry_opened
r245fa_estimates = tt
