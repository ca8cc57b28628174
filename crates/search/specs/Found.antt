-- What a search finds, from its two parts.
use Rattle.std.specs.Prelude.{Float}
use Rattle.search.specs.declared.Word.{Word}
use Rattle.search.specs.declared.Found.{Found}

abbrev pub state : Float → Word → Found
state ρ w = record { density = ρ; word = w }
