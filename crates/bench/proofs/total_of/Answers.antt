-- `total_of` meets its contract. The loop's invariant: the total is that of the densities so far. Assumes nothing.
use mathlib.Core.Path.{refl}
use native.Mathlib.Numerals.{add-one}
use Rattle.arithmetic.proofs.Literals.{lit_0}
use Rattle.bench.specs.Doors.{total_to}
use Rattle.bench.proofs.total_of.Goals as goal

pub loop-rho-init : goal.loop-rho-init
unfolding total_to
loop-rho-init c = lit_0

pub loop-rho-preserved : goal.loop-rho-preserved
unfolding total_to
loop-rho-preserved c = rw (add-one, c.loop-rho.invariant, c.pressure_at-total.ensures) refl
