-- `finite` meets its contract: std's test and the definition's answer alike for each of the three kinds of numbers. Assumes nothing.
use mathlib.Core.Path.{◌≡◌, refl, ◌∙◌}
use lib.Ieee.{Float, nan, inf, fin}
use lib.Ieee.Scale.{finite}
use Rattle.std.specs.Float.{float_is_finite}
use Rattle.arithmetic.proofs.checked.finite.Goals as goal

alike : (x : Float) → float_is_finite x ≡ finite x
unfolding float_is_finite
alike nan = refl
alike (inf s) = refl
alike (fin s m e) = refl

pub returns : goal.returns
returns c = c.is_finite.ensures.value ∙ alike c.args.x
