-- `sound_speed` meets its contract: it is the call of its property. Assumes nothing.
use Rattle.properties.specs.Calls.{sound_speed_of}
use Rattle.properties.proofs.calls.sound_speed.Goals as goal

pub returns : goal.returns
unfolding sound_speed_of
returns c = c.answer_numbered.ensures
