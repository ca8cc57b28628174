-- 01, "A term is one of three kinds": what a term gives at δ and τ, from its power τᵗ and its X.
use Rattle.std.specs.Prelude.{Float}
use Rattle.arithmetic.specs.Checked.{real, minus, ◌▷◌, ◌⊖◌, ◌⊗◌}
use Rattle.exponentials.specs.Exp.{exp_of}
use Rattle.elementary.specs.Power.{◌↑◌}
use Rattle.fluids.specs.declared.Term.{Term}
use Rattle.fluids.specs.declared.Term.TheVariants.{Plain, Damped, Bell}
use Rattle.sums.specs.declared.rows.Row.{Row}

-- X: 1; exp(−δˡ); exp(−η·(δ−ε)·(δ−ε) − β·(τ−γ)·(τ−γ)), with the bell's second part handed in as b
unfoldable pub x_at : Float → Float → Term → Float
x_at δ b (Plain N t d) = real 1
x_at δ b (Damped N t d l) = exp_of (minus (δ ↑ l))
x_at δ b (Bell N t d η β γ ε) = exp_of (minus η ⊗ (δ ⊖ ε) ⊗ (δ ⊖ ε) ⊖ b)

-- A = ((N·δᵈ)·τᵗ)·X, and q, r, f, g, with w the power τᵗ
unfoldable pub row_at : Float → Float → Float → Float → Term → Row
row_at δ τ w X (Plain N t d) =
    real d ▷ λ q.
    record { a = ((N ⊗ δ ↑ d) ⊗ w) ⊗ X; q = q; r = t; f = q ⊗ q ⊖ q; g = t ⊗ t ⊖ t }
row_at δ τ w X (Damped N t d l) =
    real d ⊖ real l ⊗ δ ↑ l ▷ λ q.
    record { a = ((N ⊗ δ ↑ d) ⊗ w) ⊗ X; q = q; r = t; f = (q ⊗ q ⊖ q) ⊖ (real l ⊗ real l) ⊗ δ ↑ l; g = t ⊗ t ⊖ t }
row_at δ τ w X (Bell N t d η β γ ε) =
    real d ⊖ real 2 ⊗ η ⊗ δ ⊗ (δ ⊖ ε) ▷ λ q.
    t ⊖ real 2 ⊗ β ⊗ τ ⊗ (τ ⊖ γ) ▷ λ r.
    record {
      a = ((N ⊗ δ ↑ d) ⊗ w) ⊗ X;
      q = q;
      r = r;
      f = (q ⊗ q ⊖ real d) ⊖ real 2 ⊗ η ⊗ δ ⊗ δ;
      g = (r ⊗ r ⊖ t) ⊖ real 2 ⊗ β ⊗ τ ⊗ τ;
    }
