-- exp x by its parts: the work keeps `nan`, so the range may be tested before it.
use mathlib.Core.Path.{◌≡◌, refl, sym, ◌∙◌, ap}
use mathlib.Core.List.{List, map}
use Prim.Native.Nat.{ℕ}
use lib.ListN.{get_or, get_or-map}
use lib.Ieee.{Float, nan, mul, add, div, neg, le, lt, eq, of_int, round}
use Rattle.arithmetic.specs.Checked.{squash, real, two⁻, within, minus, ◌▷◌, ◌⊕◌, ◌⊗◌, ◌⊘◌}
use Rattle.exponentials.specs.Exp.{exp_steps, squared, exp_work, exp_of}
use Rattle.arithmetic.proofs.Operations.{⊗_left}
use Rattle.arithmetic.proofs.Forced.{forced}
use Rattle.arithmetic.proofs.Within.{within_after}

work : Float → Float
work g = squared 10 (exp_steps (g ⊗ two⁻ 10) 16 (real 1))

work_nan : work nan ≡ nan
unfolding work exp_steps squared ◌⊗◌ ◌⊕◌ ◌⊘◌ ◌▷◌ mul add div of_int
work_nan = refl

work_squash : (x : Float) → work (squash x) ≡ exp_work x
unfolding work exp_work
work_squash x = simp (forced, ⊗_left)

work_in : (lo hi x : Float) → work (squash (within lo hi x x)) ≡ within lo hi x (exp_work x)
work_in lo hi x = within_after lo hi x x (λ (g : Float). work (squash g)) work_nan ∙ ap (within lo hi x) (work_squash x)

pub exp_worked :
    (x y h : Float) → squash y ≡ squash (within (minus (real 700)) (real 700) x x) ⊗ two⁻ 10 → squash h ≡ exp_steps (squash y) 16 (real 1) →
    squared 10 (squash h) ≡ exp_of x
unfolding work exp_of
exp_worked x y h p q = ap (squared 10) (q ∙ ap (λ (z : Float). exp_steps z 16 (real 1)) p) ∙ work_in _ _ x

exp_nan : exp_of nan ≡ nan
unfolding exp_of within minus le neg of_int
exp_nan = refl

-- what stands at a place of a list of exponentials
pub exp_at : (xs : List Float) (i : ℕ) → get_or (map exp_of xs) i nan ≡ exp_of (get_or xs i nan)
exp_at xs i = ap (get_or (map exp_of xs) i) (sym exp_nan) ∙ get_or-map exp_of xs i nan

-- what holds of the exponentials of seven numbers, place by place
pub exps_at : (es xs : List Float) → xs ≡ map exp_of es → (i : ℕ) → get_or xs i nan ≡ exp_of (get_or es i nan)
exps_at es xs e i = ap (λ (l : List Float). get_or l i nan) e ∙ exp_at es i

-- case (a)
pub exp_0 : exp_of (real 0) ≡ real 1
unfolding exp_of exp_work exp_steps squared within minus ◌▷◌ ◌⊕◌ ◌⊗◌ ◌⊘◌ add mul div neg of_int round le lt eq
exp_0 = refl
