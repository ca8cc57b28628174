-- What the temperature alone decides of a fluid's terms, kept for any number of densities.
use Rattle.std.specs.Prelude.{map, Float}
use Rattle.arithmetic.specs.Checked.{real, ◌▷◌, ◌⊖◌, ◌⊗◌, ◌⊘◌}
use Rattle.exponentials.specs.Exp.{exp_of}
use Rattle.logarithms.specs.Ln.{ln_of}
use Rattle.fluids.specs.declared.Term.{Term}
use Rattle.fluids.specs.declared.Term.TheVariants.{Plain, Damped, Bell}
use Rattle.fluids.specs.declared.Fluid.{Fluid}
use Rattle.fluids.specs.Entries.{entry_of}
use Rattle.kept.specs.declared.Kept.{Kept}

-- the exponent t
abbrev pub exponent_of : Term → Float
exponent_of (Plain N t d) = t
exponent_of (Damped N t d l) = t
exponent_of (Bell N t d η β γ ε) = t

-- τᵗ is exp(t·ln τ); y is ln τ
unfoldable pub power_at : Float → Term → Float
power_at y term = exp_of (exponent_of term ⊗ y)

-- a bell's β·(τ−γ)·(τ−γ), which the temperature alone decides
unfoldable pub bell_at : Float → Term → Float
bell_at τ (Plain N t d) = real 0
bell_at τ (Damped N t d l) = real 0
bell_at τ (Bell N t d η β γ ε) = β ⊗ (τ ⊖ γ) ⊗ (τ ⊖ γ)

-- the fluid, T, τ = Tc/T, ln τ, each row's τᵗ and each bell's β·(τ−γ)·(τ−γ)
unfoldable pub kept_of : Fluid → Float → Kept
kept_of F T =
    (entry_of F).Tc ⊘ T ▷ λ τ.
    ln_of τ ▷ λ y.
    record {
      fluid = F;
      t = T;
      tau = τ;
      ln_tau = y;
      powers = map (power_at y) (entry_of F).rows;
      bells = map (bell_at τ) (entry_of F).rows;
    }
