-- `enthalpy` meets its contract: it is the call of its property. Assumes nothing.
use Rattle.properties.specs.Calls.{enthalpy_of}
use Rattle.properties.proofs.calls.enthalpy.Goals as goal

pub returns : goal.returns
unfolding enthalpy_of
returns c = c.answer_numbered.ensures
