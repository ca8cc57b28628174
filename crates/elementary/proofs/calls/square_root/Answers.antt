-- `square_root` meets its contract: what `called` ensures, at what `root` ensures. Assumes nothing.
use mathlib.Core.Path.{◌∙◌, ap}
use Rattle.elementary.specs.Calls.{called_of}
use Rattle.elementary.proofs.calls.square_root.Goals as goal

pub returns : goal.returns
returns c = c.called.ensures ∙ ap (called_of c.args.x) c.root.ensures
