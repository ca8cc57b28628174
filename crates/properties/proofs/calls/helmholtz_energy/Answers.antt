-- `helmholtz_energy` meets its contract: it is the call of its property. Assumes nothing.
use Rattle.properties.specs.Calls.{helmholtz_of}
use Rattle.properties.proofs.calls.helmholtz_energy.Goals as goal

pub returns : goal.returns
unfolding helmholtz_of
returns c = c.answer_numbered.ensures
