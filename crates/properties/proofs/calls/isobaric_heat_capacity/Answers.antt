-- `isobaric_heat_capacity` meets its contract: it is the call of its property. Assumes nothing.
use Rattle.properties.specs.Calls.{isobaric_of}
use Rattle.properties.proofs.calls.isobaric_heat_capacity.Goals as goal

pub returns : goal.returns
unfolding isobaric_of
returns c = c.answer_numbered.ensures
