-- `temperature_inputs` meets its contract: its two tests, one after the other. Assumes nothing.
use mathlib.Core.Path.{refl}
use mathlib.Core.List.{[], ◌∷◌}
use Rattle.refusals.specs.declared.Refusal.TheVariants as refuses
use Rattle.refusals.proofs.InOrder.{one_test}
use Rattle.inputs.proofs.temperature_inputs.Goals as goal

pub returns : goal.returns
returns c =
    one_test ((c.args.numbers, refuses.InputNotFinite) ∷ []) _ refuses.TemperatureOutside c.tested.ensures
    (one_test [] c.args.numbers refuses.InputNotFinite c.tested-first.ensures refl refl)
    c.temperature_permitted-temperature.ensures
