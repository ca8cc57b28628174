-- `answer_of` meets its contract: the inputs' refusal where they are denied, and the work's answer where they are granted. Assumes
-- nothing.
use mathlib.Core.Path.{sym, ◌∙◌, ap}
use lib.Ieee.{Float}
use Rattle.refusals.proofs.Needed.{permitted_granted}
use Rattle.equation.specs.State.{state_at}
use Rattle.properties.specs.Calls.{worked_of}
use Rattle.properties.proofs.calls.answer_of.Goals as goal

pub returns : goal.returns
returns c =
    c.worked.ensures
    ∙ ap (λ (ρ : Float). worked_of c.args.property (state_at c.args.fluid c.args.t ρ)) c.worked_density.ensures
    ∙ sym (permitted_granted _ _ (sym c.in_ok-inputs_of.ensures))
