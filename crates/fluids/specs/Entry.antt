-- A fluid's entry: everything of 01 that is the fluid's own.
use Rattle.std.specs.Prelude.{◌≡◌, List, ℕ, get_or, Float}
use Rattle.std.specs.Float.{nan}
use Rattle.fluids.specs.declared.Term.{Term}
use Rattle.fluids.specs.declared.Term.TheVariants.{Plain}
use Rattle.fluids.specs.declared.Pair.{Pair}
use Rattle.fluids.specs.declared.Estimate.{Estimate}
use Rattle.fluids.specs.declared.Curve.{Curve}
use Rattle.fluids.specs.declared.Curve.TheVariants.{Pressure, Liquid, Vapour}
use Rattle.fluids.specs.declared.Constants.{Constants}
use Rattle.fluids.specs.declared.Data.{Data}

-- no fluid has more cells from density zero to its top; each entry is tested for it
abbrev pub most_cells : ℕ
most_cells = 2048

pub record Entry : Type 0 where
  -- critical temperature and density, gas constant, molar mass
  pub Tc : Float
  pub ρc : Float
  pub R : Float
  pub M : Float
  -- the terms' rows, in table order
  pub rows : List Term
  -- the ideal part
  pub a1 : Float
  pub a2 : Float
  pub c0 : Float
  pub pairs : List Pair
  -- the saturation estimates: critical pressure, and the terms in θ
  pub pc : Float
  pub pressure_terms : List Estimate
  pub liquid_terms : List Estimate
  pub vapour_terms : List Estimate
  -- the ranges: least_T ≤ T ≤ greatest_T, 0 ≤ ρ ≤ greatest_ρ, least_P ≤ P ≤ greatest_P; and the greatest top of a search
  pub least_T : Float
  pub greatest_T : Float
  pub greatest_ρ : Float
  pub least_P : Float
  pub greatest_P : Float
  pub top_cells : ℕ

-- what a table has where it has no row, and no pair
abbrev pub no_term : Term
no_term = Plain nan nan 0

abbrev pub no_pair : Pair
no_pair = record { v = nan; u = nan }

-- term i of the rows
abbrev pub term_of : List Term → ℕ → Term
term_of rows i = get_or rows i no_term

-- its single numbers, as the code hands them round
abbrev pub constants_of : Entry → Constants
constants_of E = record {
  critical_temperature = E.Tc;
  critical_density = E.ρc;
  gas = E.R;
  molar_mass = E.M;
  a1 = E.a1;
  a2 = E.a2;
  c0 = E.c0;
  critical_pressure = E.pc;
  least_temperature = E.least_T;
  greatest_temperature = E.greatest_T;
  greatest_density = E.greatest_ρ;
  least_pressure = E.least_P;
  greatest_pressure = E.greatest_P;
  top_cells = E.top_cells;
}

-- the terms of a saturation estimate
abbrev pub terms_of : Entry → Curve → List Estimate
terms_of E Pressure = E.pressure_terms
terms_of E Liquid = E.liquid_terms
terms_of E Vapour = E.vapour_terms

-- an entry as the code has it: its single numbers, its tables, and the terms of each estimate
abbrev pub IsDataOf : Entry → Data → Type 0
IsDataOf E d =
    (d.numbers ≡ constants_of E)
    × (d.terms ≡ E.rows)
    × (d.pairs ≡ E.pairs)
    × (d.pressure.now ≡ E.pressure_terms)
    × (d.liquid.now ≡ E.liquid_terms)
    × (d.vapour.now ≡ E.vapour_terms)
