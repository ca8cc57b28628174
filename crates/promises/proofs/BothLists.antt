-- A contract that gives a result and what two lists hold afterwards allows one outcome.
use mathlib.Core.Path.{◌≡◌, sym, ◌∙◌}

pub both_lists :
    {R A B : Type 0} {r x y : R} {a a₁ a₂ : A} {b b₁ b₂ : B} →
    (x ≡ r) × (a₁ ≡ a) × (b₁ ≡ b) → (y ≡ r) × (a₂ ≡ a) × (b₂ ≡ b) → (x ≡ y) × (◌≡◌ {A = A × B} (a₁, b₁) (a₂, b₂))
both_lists p q =
    let first = p.1 ∙ sym q.1 in
    let second = p.2 ∙ sym q.2 in
    (p.0 ∙ sym q.0, rw (first, second))
