-- R-245fa: 001, Tables 1, 5 and 6 and equations 4 to 6, worked in 01's order of operations.
use Rattle.std.specs.Prelude.{[], ◌∷◌}
use Rattle.arithmetic.specs.Checked.{real, ◌e-◌, minus}
use Rattle.fluids.specs.declared.Term.TheVariants.{Plain, Damped, Bell}
use Rattle.fluids.specs.declared.Estimate.TheVariants.{Alone, Raised}
use Rattle.fluids.specs.Entry.{Entry}

unfoldable pub r245fa : Entry
r245fa = record {
  Tc = 42701 e- 2;
  ρc = 3875 e- 3;
  R = 83144621 e- 7;
  M = 13404794 e- 8;
  -- N, t, d; N, t, d, l; N, t, d, η, β, γ, ε
  rows =
      Plain (57506623 e- 9) (real 1) 4
      ∷ Plain (15615975 e- 7) (27 e- 2) 1
      ∷ Plain (minus (23614485 e- 7)) (9 e- 1) 1
      ∷ Plain (minus (51773521 e- 8)) (109 e- 2) 2
      ∷ Plain (18509788 e- 8) (4 e- 1) 3
      ∷ Damped (minus (87405626 e- 8)) (29 e- 1) 1 2
      ∷ Damped (minus (27530955 e- 8)) (17 e- 1) 3 2
      ∷ Damped (57971151 e- 8) (8 e- 1) 2 1
      ∷ Damped (minus (39934306 e- 8)) (36 e- 1) 2 2
      ∷ Damped (minus (33230277 e- 9)) (105 e- 2) 7 1
      ∷ Bell (83210508 e- 8) (18 e- 1) 1 (1011 e- 3) (1879 e- 3) (1081 e- 3) (709 e- 3)
      ∷ Bell (minus (33544300 e- 8)) (real 4) 1 (1447 e- 3) (2454 e- 3) (651 e- 3) (939 e- 3)
      ∷ Bell (minus (10117801 e- 8)) (45 e- 1) 3 (1079 e- 3) (1256 e- 3) (468 e- 3) (703 e- 3)
      ∷ Bell (minus (91495867 e- 10)) (real 2) 3 (786 e- 2) (211 e- 1) (1293 e- 3) (777 e- 3)
      ∷ [];
  -- 001's equation 10 writes ln δ first; 01 has it in the third place
  a1 = minus (1338560883 e- 8);
  a2 = 9845374371 e- 9;
  c0 = real 4;
  pairs =
      record { v = 55728 e- 4; u = real 222 }
      ∷ record { v = 10385 e- 3; u = real 1010 }
      ∷ record { v = 12554 e- 3; u = real 2450 }
      ∷ [];
  pc = real 3651000;
  pressure_terms =
      Alone (minus (78353 e- 4))
      ∷ Raised (17746 e- 4) (15 e- 1)
      ∷ Raised (minus (31305 e- 4)) (25 e- 1)
      ∷ Raised (minus (34216 e- 4)) (real 5)
      ∷ [];
  liquid_terms =
      Raised (46367 e- 5) (17 e- 2)
      ∷ Raised (22375 e- 4) (5 e- 1)
      ∷ Raised (minus (27579 e- 5)) (13 e- 1)
      ∷ Raised (55136 e- 5) (25 e- 1)
      ∷ [];
  vapour_terms =
      Raised (minus (99583 e- 5)) (24 e- 2)
      ∷ Raised (minus (26109 e- 4)) (61 e- 2)
      ∷ Alone (minus (44141 e- 4))
      ∷ Raised (minus (18573 e- 3)) (27 e- 1)
      ∷ Raised (minus (55961 e- 3)) (595 e- 2)
      ∷ [];
  least_T = real 170;
  greatest_T = real 440;
  greatest_ρ = real 16;
  least_P = real 1;
  greatest_P = real 200000000;
  top_cells = 2048;
}
