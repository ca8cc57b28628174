-- Entries that differ from R-245ca's in one number, for which the computed tests of an entry fail.
use Rattle.std.specs.Prelude.{List, [], ◌∷◌, Float}
use Rattle.arithmetic.specs.Checked.{real}
use Rattle.fluids.specs.declared.Term.{Term}
use Rattle.fluids.specs.declared.Term.TheVariants.{Plain, Damped, Bell}
use Rattle.fluids.specs.Entry.{Entry}
use Rattle.fluids.specs.R245ca.{r245ca}

-- with another lower limit of temperature, greatest density, and rows
abbrev varied : Float → Float → List Term → Entry
varied least_T greatest_ρ rows = record {
  Tc = r245ca.Tc;
  ρc = r245ca.ρc;
  R = r245ca.R;
  M = r245ca.M;
  rows = rows;
  a1 = r245ca.a1;
  a2 = r245ca.a2;
  c0 = r245ca.c0;
  pairs = r245ca.pairs;
  pc = r245ca.pc;
  pressure_terms = r245ca.pressure_terms;
  liquid_terms = r245ca.liquid_terms;
  vapour_terms = r245ca.vapour_terms;
  least_T = least_T;
  greatest_T = r245ca.greatest_T;
  greatest_ρ = greatest_ρ;
  least_P = r245ca.least_P;
  greatest_P = r245ca.greatest_P;
  top_cells = r245ca.top_cells;
}

-- the last row, a bell, with another β
abbrev lastβ : Float → List Term → List Term
lastβ β' [] = []
lastβ β' (Plain N t d ∷ rows) = Plain N t d ∷ lastβ β' rows
lastβ β' (Damped N t d l ∷ rows) = Damped N t d l ∷ lastβ β' rows
lastβ β' (Bell N t d η β γ ε ∷ []) = Bell N t d η β' γ ε ∷ []
lastβ β' (Bell N t d η β γ ε ∷ next ∷ rows) = Bell N t d η β γ ε ∷ lastβ β' (next ∷ rows)

-- a lower limit of 100 K
abbrev pub colder : Entry
colder = varied (real 100) r245ca.greatest_ρ r245ca.rows

-- a β of 3,790 in row 14, ten times as large
abbrev pub steeper : Entry
steeper = varied r245ca.least_T r245ca.greatest_ρ (lastβ (real 3790) r245ca.rows)

-- a greatest density of 10 mol/dm³
abbrev pub thinner : Entry
thinner = varied r245ca.least_T (real 10) r245ca.rows
