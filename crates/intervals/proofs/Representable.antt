-- What a checked operation gives is a binary64, and where it is finite it is the operation's own result.
use mathlib.Core.Path.{◌≡◌, refl}
use mathlib.Core.Bool.{true, false}
use lib.Dec.{T}
use lib.Ieee.{Float, nan, inf, fin, binary64, fits, add, sub, mul, div, neg}
use lib.Ieee.Fits.{add-fits, sub-fits, mul-fits, div-fits}
use lib.Ieee.Scale.{finite}
use Rattle.arithmetic.specs.Checked.{squash, ◌⊕◌, ◌⊖◌, ◌⊗◌, ◌⊘◌}

squash_fits : (x : Float) → T (fits binary64 x) → T (fits binary64 (squash x))
squash_fits nan t = t
squash_fits (inf s) t = unfold fits in tt
squash_fits (fin s m e) t = t

module _ (x y : Float) where
  pub sum_fits : T (fits binary64 (x ⊕ y))
  unfolding ◌⊕◌
  sum_fits = squash_fits (add binary64 x y) (add-fits binary64 x y)

  pub difference_fits : T (fits binary64 (x ⊖ y))
  unfolding ◌⊖◌
  difference_fits = squash_fits (sub binary64 x y) (sub-fits binary64 x y)

  pub product_fits : T (fits binary64 (x ⊗ y))
  unfolding ◌⊗◌
  product_fits = squash_fits (mul binary64 x y) (mul-fits binary64 x y)

  pub quotient_fits : T (fits binary64 (x ⊘ y))
  unfolding ◌⊘◌
  quotient_fits = squash_fits (div binary64 x y) (div-fits binary64 x y)

-- where a result is finite it is the operation's own
squash_here : (x : Float) → T (finite (squash x)) → squash x ≡ x
squash_here nan t = elim t [ ]
squash_here (inf _) t = elim t [ ]
squash_here (fin s m e) t = refl

module _ (x y : Float) where
  pub sum_is : T (finite (x ⊕ y)) → x ⊕ y ≡ add binary64 x y
  unfolding ◌⊕◌
  sum_is t = squash_here (add binary64 x y) t

  pub difference_is : T (finite (x ⊖ y)) → x ⊖ y ≡ add binary64 x (neg y)
  unfolding ◌⊖◌ sub
  difference_is t = squash_here (add binary64 x (neg y)) t

-- and the terms of a finite sum are finite
pub summands_finite : (x y : Float) → T (finite (x ⊕ y)) → T (finite x) × T (finite y)
unfolding ◌⊕◌ add
summands_finite nan y t = absurd t
summands_finite (inf s) nan t = absurd t
summands_finite (inf true) (inf true) t = absurd t
summands_finite (inf true) (inf false) t = absurd t
summands_finite (inf false) (inf true) t = absurd t
summands_finite (inf false) (inf false) t = absurd t
summands_finite (inf s) (fin u n d) t = absurd t
summands_finite (fin s m e) nan t = absurd t
summands_finite (fin s m e) (inf u) t = absurd t
summands_finite (fin s m e) (fin u n d) t = (tt, tt)
