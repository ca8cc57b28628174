-- `worked` meets its contract, by the three things that a record asks. Assumes nothing.
use Rattle.properties.specs.Calls.{pressure_of}
use Rattle.questions.proofs.work.worked.Goals as goal

pub returns-in-State : goal.returns-in-State
unfolding pressure_of
returns-in-State c = rw (c.in_ok-fluid.was, c.in-State.is) c.answer_of.ensures

pub returns-in-Search : goal.returns-in-Search
returns-in-Search c = rw (c.in_ok-fluid.was, c.in-Search.is) c.density_at.ensures
