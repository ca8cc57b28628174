-- A cell that a search among c coarse cells finds lies under c, by where the search stops.
use mathlib.Core.Path.{◌≡◌}
use Prim.Native.Nat.{ℕ, ◌≤◌, ◌<◌}
use native.Mathlib.Omega.{arith}
use lib.Ieee.{Float}
use Rattle.std.specs.Prelude.{Ok}
use Rattle.search.specs.declared.Side.{Side}
use Rattle.search.specs.declared.Side.TheVariants.{FromBelow, FromAbove}
use Rattle.search.specs.Plain.{cell_from_below}
use Rattle.search.specs.Quick.{quick_cell}
use Rattle.search.specs.BySide.{plain_cell_of}
use Rattle.search.proofs.Stops.{up_stops}
use Rattle.search.proofs.Encloses.{above_cell_encloses, quick_cell_encloses}

module _ (q : ℕ → Float) (P : Float) (c j : ℕ) where
  below_under : cell_from_below q P c ≡ Ok j → j < c
  unfolding cell_from_below
  below_under r = let h = (up_stops q P (λ x. Unit) (λ x t s. tt) c 0 j tt r).0 in omega arith

  pub plain_cell_under : (side : Side) → plain_cell_of side q P c ≡ Ok j → j < c
  plain_cell_under FromBelow r = below_under r
  plain_cell_under FromAbove r = (above_cell_encloses q P c j r).below_top

  pub quick_cell_under : (f : ℕ → Float) → 1 ≤ c → quick_cell f q P c ≡ Ok j → j < c
  quick_cell_under f h r = (quick_cell_encloses q P c f h j r).below_top
