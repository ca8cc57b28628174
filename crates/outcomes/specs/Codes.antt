-- A search's density alone, as an answer.
use Rattle.std.specs.Prelude.{Result, Ok, Err}
use Rattle.refusals.specs.declared.Refusal.{Refusal}
use Rattle.refusals.specs.Answer.{Answer}
use Rattle.search.specs.declared.Found.{Found}

abbrev pub found_answer_of : Result Found Refusal → Answer
found_answer_of (Ok found) = Ok found.density
found_answer_of (Err r) = Err r
