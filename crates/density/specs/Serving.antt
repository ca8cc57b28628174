-- Lists that are kept while a temperature stays the same: when two lists serve T and c.
use Rattle.std.specs.Prelude.{◌≡◌, List, ℕ, ◌+◌, ◌<◌, length, replicate, Float}
use Rattle.fluids.specs.declared.Fluid.{Fluid}
use Rattle.arithmetic.specs.Checked.{real}
use Rattle.search.specs.declared.Side.{Side}
use Rattle.preparation.specs.Prepare.{greatest_after, least_after}
use Rattle.density.specs.Calls.{quick_of}

-- the lists that a preparation of c cells at T leaves of two lists of c + 1 zeros
unfoldable pub zeros : ℕ → List Float
zeros c = replicate (c + 1) (real 0)

abbrev pub greatest_at : Fluid → Float → ℕ → List Float
greatest_at F T c = greatest_after F T c (zeros c) (zeros c)

abbrev pub least_at : Fluid → Float → ℕ → List Float
least_at F T c = least_after F T c (zeros c) (zeros c)

-- two lists with the places 0 .. c over which each quick search at T ends as over the lists prepared for T
pub record Serves (F : Fluid) (T : Float) (c : ℕ) (G L : List Float) : Type 0 where
  pub places_greatest : c < length G
  pub places_least : c < length L
  pub alike : (P : Float) (side : Side) → quick_of F T P c side G L ≡ quick_of F T P c side (greatest_at F T c) (least_at F T c)
