-- `verriblom_saturation` meets its contract: the number of what `saturation_into` ends with. Assumes nothing.
use mathlib.Core.Path.{◌∙◌, ap}
use Prim.Native.Nat.{ℕ}
use Rattle.verriblom.proofs.verriblom_saturation.Goals as goal

pub returns : goal.returns
returns c = ap (λ (n : ℕ). (n, c.saturation_into.new.out)) c.answer_code.ensures ∙ c.saturation_into.ensures
