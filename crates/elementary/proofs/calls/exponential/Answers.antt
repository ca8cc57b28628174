-- `exponential` meets its contract: what `called` ensures, at what `exp` ensures. Assumes nothing.
use mathlib.Core.Path.{◌∙◌, ap}
use Rattle.elementary.specs.Calls.{called_of}
use Rattle.elementary.proofs.calls.exponential.Goals as goal

pub returns : goal.returns
returns c = c.called.ensures ∙ ap (called_of c.args.x) c.exp.ensures
