-- A contract that gives a result and what a list holds afterwards as one pair allows one outcome.
use mathlib.Core.Path.{◌≡◌, sym, ◌∙◌, ap}

pub as_one : {R A : Type 0} {x y : R} {a b : A} {both : R × A} → ◌≡◌ {A = R × A} (x, a) both → ◌≡◌ {A = R × A} (y, b) both → (x ≡ y) × (a ≡ b)
as_one {R} {A} p q = (ap (λ (pair : R × A). pair.0) (p ∙ sym q), ap (λ (pair : R × A). pair.1) (p ∙ sym q))
