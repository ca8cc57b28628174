-- Numbers that are finite or `nan` are finite where a comparison holds of them, or where their difference is finite.
use mathlib.Core.Path.{◌≡◌, refl, sym, ◌∙◌, ap}
use mathlib.Core.Bool.{true, false, true≢false}
use lib.Ieee.{Float, nan, inf, fin, lt, le}
use lib.Ieee.Scale.{finite}
use Rattle.arithmetic.specs.Checked.{squash, ◌⊖◌}
use Rattle.arithmetic.proofs.Operations.{nan_⊖}

-- what is no NaN
settled : (x : Float) → squash x ≡ x → (x ≡ nan → ⊥) → finite x ≡ true
settled nan e number = absurd (number refl)
settled (inf s) e number = cc
settled (fin s m d) e number = refl

lt_nan : (a : Float) → lt a nan ≡ false
unfolding lt
lt_nan nan = refl
lt_nan (inf s) = refl
lt_nan (fin s m d) = refl

pub finite_above : (a x : Float) → squash x ≡ x → lt a x ≡ true → finite x ≡ true
finite_above a x e above = settled x e (λ none. true≢false (sym above ∙ ap (lt a) none ∙ lt_nan a))

nan_le : (b : Float) → le nan b ≡ false
unfolding le
nan_le nan = refl
nan_le (inf s) = refl
nan_le (fin s m d) = refl

pub finite_under : (x b : Float) → squash x ≡ x → le x b ≡ true → finite x ≡ true
finite_under x b e under = settled x e (λ none. true≢false (sym under ∙ ap (λ (y : Float). le y b) none ∙ nan_le b))

not_finite : finite nan ≡ false
not_finite = refl

-- both of a difference that is finite
pub finite_parts : (a b : Float) → squash a ≡ a → squash b ≡ b → finite (a ⊖ b) ≡ true → (finite a ≡ true) × (finite b ≡ true)
finite_parts a b e f p = (
  settled a e (λ none. true≢false (sym p ∙ ap (λ (x : Float). finite (x ⊖ b)) none ∙ ap finite (nan_⊖ b).0 ∙ not_finite)),
  settled b f (λ none. true≢false (sym p ∙ ap (λ (x : Float). finite (a ⊖ x)) none ∙ ap finite (nan_⊖ a).1 ∙ not_finite)),
)
