-- A row and six sums, squashed number by number: what the contracts inside this crate speak of.
use Rattle.std.specs.Prelude.{Bool, ◌&&◌, Float}
use Rattle.std.specs.Float.Ieee.Scale.{finite}
use Rattle.arithmetic.specs.Checked.{squash}
use Rattle.fluids.specs.declared.Term.{Term}
use Rattle.sums.specs.declared.rows.Row.{Row}
use Rattle.sums.specs.declared.Sums.{Sums}
use Rattle.sums.specs.Rows.{row_at}

abbrev pub squash_row : Row → Row
squash_row w = record { a = squash w.a; q = squash w.q; r = squash w.r; f = squash w.f; g = squash w.g }

-- a term's row from numbers that are not squashed yet
abbrev pub row_from : Float → Float → Float → Float → Term → Row
row_from δ τ w X term = row_at (squash δ) (squash τ) (squash w) (squash X) term

abbrev pub squash_sums : Sums → Sums
squash_sums s = record { s0 = squash s.s0; s1 = squash s.s1; s2 = squash s.s2; t1 = squash s.t1; t2 = squash s.t2; st = squash s.st }

-- whether squashing leaves six sums as they are
abbrev pub all_finite : Sums → Bool
all_finite s = (finite s.s0 && finite s.s1) && ((finite s.s2 && finite s.t1) && (finite s.t2 && finite s.st))
