-- `inputs` meets its contract: by what the record asks. Assumes nothing.
use Rattle.questions.proofs.call.inputs.Goals as goal

pub returns-in-State : goal.returns-in-State
returns-in-State c = rw (c.in_ok-fluid.was, c.in-State.is) c.state_inputs.ensures

pub returns-in-Search : goal.returns-in-Search
returns-in-Search c = rw (c.in_ok-fluid.was, c.in-Search.is) c.asked_inputs.ensures
