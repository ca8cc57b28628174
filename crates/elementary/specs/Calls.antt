-- The three elementary functions as calls: 2 for a NaN or an infinity; 12 outside the stated range or where a value on the
-- way is not finite; else the number.
use Rattle.std.specs.Prelude.{Float}
use Rattle.std.specs.Float.Ieee.Scale.{finite}
use Rattle.refusals.specs.declared.Refusal.TheVariants.{InputNotFinite}
use Rattle.refusals.specs.Answer.{Answer}
use Rattle.refusals.specs.Order.{need}
use Rattle.arithmetic.specs.Answered.{answer_from}
use Rattle.exponentials.specs.Exp.{exp_of}
use Rattle.logarithms.specs.Ln.{ln_of}
use Rattle.roots.specs.Root.{root_of}

-- a call at x with the worked value v
abbrev pub called_of : Float → Float → Answer
called_of x v = need (finite x) InputNotFinite (answer_from v)

abbrev pub exponential_of : Float → Answer
exponential_of x = called_of x (exp_of x)

abbrev pub logarithm_of : Float → Answer
logarithm_of x = called_of x (ln_of x)

abbrev pub square_root_of : Float → Answer
square_root_of x = called_of x (root_of x)
