-- `isochoric_heat_capacity` meets its contract: it is the call of its property. Assumes nothing.
use Rattle.properties.specs.Calls.{isochoric_of}
use Rattle.properties.proofs.calls.isochoric_heat_capacity.Goals as goal

pub returns : goal.returns
unfolding isochoric_of
returns c = c.answer_numbered.ensures
