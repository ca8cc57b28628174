-- What a call hands out of a worked value: the value, or 12 where it is not finite.
use Rattle.std.specs.Prelude.{Float, Ok, Err}
use Rattle.std.specs.Float.{nan, inf, fin}
use Rattle.refusals.specs.declared.Refusal.TheVariants.{WorkNotFinite}
use Rattle.refusals.specs.Answer.{Answer}

abbrev pub answer_from : Float → Answer
answer_from nan = Err WorkNotFinite
answer_from (inf s) = Err WorkNotFinite
answer_from (fin s m e) = Ok (fin s m e)
