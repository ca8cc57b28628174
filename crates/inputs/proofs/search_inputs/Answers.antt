-- `search_inputs` meets its contract: two tests more than those of an asked pressure. Assumes nothing.
use mathlib.Core.Path.{refl}
use mathlib.Core.List.{[], ◌∷◌, ◌++◌}
use Rattle.refusals.specs.declared.Refusal.TheVariants as refuses
use Rattle.refusals.proofs.InOrder.{one_test}
use Rattle.inputs.specs.Inputs as Inputs
use Rattle.inputs.proofs.search_inputs.Goals as goal

pub returns : goal.returns
unfolding Inputs.search_permit Inputs.asked_permit
returns c =
    one_test (Inputs.asked_tests c.args.fluid c.args.t c.args.p ++ (Inputs.top_test c.args.fluid c.args.c ∷ [])) c.args.room refuses.TooShort c.tested.ensures
    (one_test (Inputs.asked_tests c.args.fluid c.args.t c.args.p) (Inputs.top_test c.args.fluid c.args.c).0 refuses.TopOutside c.tested-cells.ensures c.asked_inputs-before.ensures c.top_permitted-top.ensures)
    refl
