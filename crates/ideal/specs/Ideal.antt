-- 01, "Ideal part": I0, I1, I2, with b = u/T and w = exp b. The sums over the pairs start at 0 by themselves and are then added.
use Rattle.std.specs.Prelude.{◌≡◌, List, ℕ, zero, suc, Float, get_or, length}
use Rattle.arithmetic.specs.Checked.{real, squash, minus, ◌▷◌, ◌⊕◌, ◌⊖◌, ◌⊗◌, ◌⊘◌}
use Rattle.exponentials.specs.Exp.{exp_of}
use Rattle.logarithms.specs.Ln.{ln_of}
use Rattle.fluids.specs.declared.Pair.{Pair}
use Rattle.fluids.specs.declared.Fluid.{Fluid}
use Rattle.fluids.specs.Entry.{no_pair}
use Rattle.fluids.specs.Entries.{entry_of}

-- v·ln(1 − exp(−b))
unfoldable pub part0 : Float → Pair → Float
part0 T p = p.v ⊗ ln_of (real 1 ⊖ exp_of (minus (p.u ⊘ T)))

-- v·b/(w−1)
unfoldable pub part1 : Float → Pair → Float
part1 T p = p.u ⊘ T ▷ λ b. exp_of b ▷ λ w. p.v ⊗ b ⊘ (w ⊖ real 1)

-- v·b·b·w/((w−1)·(w−1))
unfoldable pub part2 : Float → Pair → Float
part2 T p = p.u ⊘ T ▷ λ b. exp_of b ▷ λ w. p.v ⊗ b ⊗ b ⊗ w ⊘ ((w ⊖ real 1) ⊗ (w ⊖ real 1))

-- what a call gives of a pair, squashed, is this part of it
abbrev pub Gives : (Pair → Float → Type 0) → (Pair → Float) → Type 0
Gives post part = (p : Pair) (x : Float) → post p x → squash x ≡ part p

-- Σ over the first i pairs
unfoldable pub total_to : (Pair → Float) → List Pair → ℕ → Float
total_to part pairs zero = real 0
total_to part pairs (suc i) = total_to part pairs i ▷ λ s. s ⊕ part (get_or pairs i no_pair)

-- Σ over the fluid's pairs
unfoldable pub total_of : Fluid → (Pair → Float) → Float
total_of F part = total_to part (entry_of F).pairs (length (entry_of F).pairs)

module _ (F : Fluid) (T : Float) where
  -- a1 + a2·τ + ln δ + (c0−1)·ln τ + Σ v·ln(1 − exp(−b)); y is ln τ
  unfoldable pub I0 : Float → Float → Float → Float
  I0 τ y δ = (entry_of F).a1 ⊕ (entry_of F).a2 ⊗ τ ⊕ ln_of δ ⊕ ((entry_of F).c0 ⊖ real 1) ⊗ y ⊕ total_of F (part0 T)

  -- a2·τ + (c0−1) + Σ v·b/(w−1)
  unfoldable pub I1 : Float → Float
  I1 τ = (entry_of F).a2 ⊗ τ ⊕ ((entry_of F).c0 ⊖ real 1) ⊕ total_of F (part1 T)

  -- (c0−1) + Σ v·b·b·w/((w−1)·(w−1))
  unfoldable pub I2 : Float
  I2 = ((entry_of F).c0 ⊖ real 1) ⊕ total_of F (part2 T)
