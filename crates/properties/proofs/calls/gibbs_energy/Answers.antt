-- `gibbs_energy` meets its contract: it is the call of its property. Assumes nothing.
use Rattle.properties.specs.Calls.{gibbs_of}
use Rattle.properties.proofs.calls.gibbs_energy.Goals as goal

pub returns : goal.returns
unfolding gibbs_of
returns c = c.answer_numbered.ensures
