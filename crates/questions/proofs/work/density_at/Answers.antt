-- `density_at` meets its contract: what the plain search found, as an answer. Assumes nothing.
use mathlib.Core.Path.{◌∙◌, ap}
use Rattle.outcomes.specs.Codes.{found_answer_of}
use Rattle.fluids.specs.declared.Constants.{Constants}
use Rattle.density.specs.Calls.{plain_of}
use Rattle.questions.specs.Asked.{density_at}
use Rattle.questions.proofs.work.density_at.Goals as goal

pub returns : goal.returns
unfolding density_at
returns c =
    c.found_answer.ensures
    ∙ ap found_answer_of (c.plain_of.ensures ∙ ap (λ (k : Constants). plain_of c.args.fluid c.args.t c.args.p k.top_cells c.args.side) c.single_numbers-numbers.ensures)
