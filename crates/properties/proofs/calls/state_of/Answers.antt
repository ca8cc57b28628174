-- `state_of` meets its contract: the state of what is kept. Assumes nothing.
use mathlib.Core.Path.{◌∙◌, ap}
use Rattle.kept.specs.declared.Kept.{Kept}
use Rattle.equation.specs.State.{state_of}
use Rattle.properties.proofs.calls.state_of.Goals as goal

pub returns : goal.returns
returns c = c.state_at.ensures ∙ ap (λ (k : Kept). state_of k c.args.rho) c.keep.ensures
