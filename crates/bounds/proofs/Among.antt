-- What holds of every code of a list holds of a code that is one of them: by going through the list.
use mathlib.Core.Path.{sym, subst}
use mathlib.Core.Logic.{inl, inr}
use mathlib.Core.Bool.{Bool}
use mathlib.Core.List.{List, [], ◌∷◌}
use Prim.Native.Nat.{ℕ}
use lib.Dec.{T}
use lib.Ieee.Fits.{and_l, and_r}
use Rattle.refusals.specs.Code.{OneOf}
use Rattle.std.specs.List.{list_all}

pub each_of : (p : ℕ → Bool) (codes : List ℕ) → T (list_all p codes) → (n : ℕ) → OneOf n codes → T (p n)
each_of p [] all n x'' = elim x'' [ ]
each_of p (x ∷ xs) all n (inl e) = subst (λ (k : ℕ). T (p k)) (sym e) (and_l (p x) (list_all p xs) all)
each_of p (x ∷ xs) all n (inr later) = each_of p xs (and_r (p x) (list_all p xs) all) n later
