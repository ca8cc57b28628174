-- Every fluid's entry passes the computed tests: case by case, each by the fluid's own file.
use lib.Dec.{T}
use Rattle.fluids.specs.declared.Fluid.{Fluid}
use Rattle.fluids.specs.declared.Fluid.TheVariants.{R245ca, R245fa}
use Rattle.fluids.specs.Entries.{entry_of}
use Rattle.ranges.proofs.Entry.{passes}
use Rattle.ranges.proofs.Estimates.{estimates_known, estimate_ends}
use Rattle.ranges.proofs.Top.{Rises}
use Rattle.ranges.proofs.R245ca.{r245ca_passes, r245ca_rises, r245ca_estimate_ends, r245ca_estimates}
use Rattle.ranges.proofs.R245fa.{r245fa_passes, r245fa_rises, r245fa_estimate_ends, r245fa_estimates}

pub entry_passes : (F : Fluid) → T (passes (entry_of F))
unfolding entry_of
entry_passes R245ca = r245ca_passes
entry_passes R245fa = r245fa_passes

pub entry_rises : (F : Fluid) → Rises F (entry_of F).least_T (entry_of F).greatest_T
unfolding entry_of
entry_rises R245ca = r245ca_rises
entry_rises R245fa = r245fa_rises

pub entry_estimate_ends : (F : Fluid) → T (estimate_ends (entry_of F))
unfolding entry_of
entry_estimate_ends R245ca = r245ca_estimate_ends
entry_estimate_ends R245fa = r245fa_estimate_ends

pub entry_estimates : (F : Fluid) → T (estimates_known (entry_of F))
unfolding entry_of
entry_estimates R245ca = r245ca_estimates
entry_estimates R245fa = r245fa_estimates
