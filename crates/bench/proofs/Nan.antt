-- The NaN that the code writes where there is no number is the definitions'.
use mathlib.Core.Path.{◌≡◌, refl}
use lib.Ieee.{of_bits, binary64}
use Rattle.std.specs.Prelude.{Result, Ok, Err}
use Rattle.std.specs.Result.{result_unwrap_or}
use Rattle.refusals.specs.declared.Refusal.{Refusal}
use Rattle.refusals.specs.Answer.{Answer}
use Rattle.arithmetic.proofs.Literals.{lit_nan}
use Rattle.search.specs.declared.Found.{Found}
use Rattle.outcomes.specs.Codes.{found_answer_of}
use Rattle.bench.specs.Doors.{number_of, found_density}

pub number_or : (a : Answer) → result_unwrap_or a (of_bits binary64 9221120237041090560) ≡ number_of a
number_or (Ok x) = refl
number_or (Err r) = lit_nan

pub density_or : (found : Result Found Refusal) → number_of (found_answer_of found) ≡ found_density found
density_or (Ok found) = refl
density_or (Err r) = refl
