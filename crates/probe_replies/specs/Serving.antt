-- Lists that are kept from question to question: what they serve.
use Rattle.std.specs.Prelude.{◌≡◌, List, ℕ, ◌+◌, length, Float, Result}
use Rattle.std.specs.Result.{ForOk}
use Rattle.std.specs.Float.{binary64}
use Rattle.std.specs.Float.Ieee.{of_bits}
use Rattle.refusals.specs.declared.Refusal.{Refusal}
use Rattle.fluids.specs.declared.Fluid.{Fluid}
use Rattle.fluids.specs.Entry.{most_cells}
use Rattle.fluids.specs.Entries.{entry_of, fluid_numbered}
use Rattle.density.specs.Serving.{Serves}

-- two lists with a place for each end of the most cells that a fluid has
abbrev pub Places : List Float → List Float → Type 0
Places G L = (length G ≡ most_cells + 1) × (length L ≡ most_cells + 1)

-- the lists serve T up to the own top of the fluid that is named; where none is, no search looks at them
abbrev pub ServesNamed : Result Fluid Refusal → Float → List Float → List Float → Type 0
ServesNamed named T G L = ForOk named (λ F. Serves F T (entry_of F).top_cells G L)

-- lists with all places serve the fluid of the number at the temperature of the bits
abbrev pub ServesAt : ℕ → ℕ → List Float → List Float → Type 0
ServesAt number bits G L = Places G L × ServesNamed (fluid_numbered number) (of_bits binary64 bits) G L
