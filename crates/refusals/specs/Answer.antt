-- How a call ends: with a number, or with a refusal that carries none; and whether its inputs let it go on.
use Rattle.std.specs.Prelude.{Result, Float}
use Rattle.refusals.specs.declared.Refusal.{Refusal}

abbrev pub Answer : Type 0
Answer = Result Float Refusal

abbrev pub Permit : Type 0
Permit = Result Unit Refusal
