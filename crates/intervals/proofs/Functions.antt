-- exp, root and powers of values in intervals lie in the interval worked by the same steps.
use mathlib.Core.Path.{◌≡◌, refl}
use mathlib.Core.Bool.{Bool, true, false, cond}
use Prim.Native.Nat.{ℕ, zero, suc, ◌^◌}
use lib.Dec.{T}
use lib.Ieee.{Float, eq, le}
use lib.Ieee.Scale.{finite}
use Rattle.arithmetic.specs.Checked.{real, two⁻, minus, within, ◌⊗◌}
use Rattle.exponentials.specs.Exp.{exp_steps, squared, exp_work, exp_of}
use Rattle.logarithms.specs.Ln.{ln_of}
use Rattle.roots.specs.Root.{root_steps, root_of}
use Rattle.elementary.specs.Power.{power_of, ◌↑◌}
use Rattle.arithmetic.proofs.Forced.{forced}
use Rattle.arithmetic.proofs.Within.{within_in}
use Rattle.exponentials.proofs.Literals.{finite_700, finite_minus_700}
use Rattle.roots.proofs.Literals.{finite_1, finite_1e8}
use Rattle.intervals.proofs.Fractions.{is_true}
use Rattle.intervals.proofs.Interval.{Interval, In, point, at, hull, hull_left, hull_right, ◌▶◌, computed, lies, lies_in}
use Rattle.intervals.proofs.Sum.{◌⊞◌, ◌⟨⊕⟩◌}
use Rattle.intervals.proofs.Product.{◌⊠◌, ◌⟨⊗⟩◌}
use Rattle.intervals.proofs.Quotient.{◌÷◌, ◌⟨⊘⟩◌, only_if, only_if_lem}

infixl 75 ◌⇈◌
-- where the interval lies in the range, so does the value, and what is worked there stands
pub within_holds : {X W : Interval} {x v : Float} (lo hi : Float) → T (finite lo) → T (finite hi) → In X x → In W v → In (only_if (lies lo X hi) W) (within lo hi x v)
within_holds {X = X} {x = x} {v = v} lo hi p q a b =
    only_if_lem (lies lo X hi) (λ t.
    let (l, h) = lies_in lo hi p q t a in
    rw (within_in lo hi x v (is_true (le lo x) l) (is_true (le x hi) h)) b)

-- ---- exp
unfoldable pub exp_steps_over : Interval → ℕ → Interval → Interval
exp_steps_over Y zero H = H
exp_steps_over Y (suc n) H = point (real 1) ⊞ (Y ⊠ H) ÷ point (real (suc n)) ▶ exp_steps_over Y n

exp_steps_lem : {Y : Interval} {y : Float} (n : ℕ) {H : Interval} {h : Float} → In Y y → In H h → In (exp_steps_over Y n H) (exp_steps y n h)
unfolding exp_steps_over exp_steps
exp_steps_lem zero a b = b
exp_steps_lem (suc n) a b = simp (computed, forced) (exp_steps_lem n a (at (real 1) ⟨⊕⟩ (a ⟨⊗⟩ b) ⟨⊘⟩ at (real (suc n))))

unfoldable pub squared_over : ℕ → Interval → Interval
squared_over zero H = H
squared_over (suc k) H = H ⊠ H ▶ squared_over k

squares : (k : ℕ) {H : Interval} {h : Float} → In H h → In (squared_over k H) (squared k h)
unfolding squared_over squared
squares zero a = a
squares (suc k) a = simp (computed, forced) (squares k (a ⟨⊗⟩ a))

unfoldable pub exp_over : Interval → Interval
exp_over X = only_if (lies (minus (real 700)) X (real 700)) (X ⊠ point (two⁻ 10) ▶ λ Y. exp_steps_over Y 16 (point (real 1)) ▶ squared_over 10)

pub ⟨exp⟩ : {X : Interval} {x : Float} → In X x → In (exp_over X) (exp_of x)
unfolding exp_over exp_of exp_work
⟨exp⟩ a = within_holds (minus (real 700)) (real 700) finite_minus_700 finite_700 a (simp (computed, forced) (squares 10 (exp_steps_lem 16 (a ⟨⊗⟩ at (two⁻ 10)) (at (real 1)))))

-- ---- repeated products
unfoldable pub ◌⇈◌ : Interval → ℕ → Interval
X ⇈ zero = point (real 1)
X ⇈ suc n = X ⇈ n ⊠ X

pub ⟨↑⟩ : {X : Interval} {x : Float} (n : ℕ) → In X x → In (X ⇈ n) (x ↑ n)
unfolding ◌⇈◌ ◌↑◌
⟨↑⟩ zero a = at (real 1)
⟨↑⟩ (suc n) a = ⟨↑⟩ n a ⟨⊗⟩ a

-- ---- xᵗ, where L holds ln x unless x is 0
unfoldable pub power_over : Interval → Float → Interval
power_over L t = hull (point (real 0)) (exp_over (point t ⊠ L))

pub ⟨power⟩ : {L : Interval} (x t : Float) → (eq x (real 0) ≡ false → In L (ln_of x)) → In (power_over L t) (power_of x t)
unfolding power_over power_of
⟨power⟩ {L} x t w = go (eq x (real 0)) w
  where
    go : (b : Bool) → (b ≡ false → In L (ln_of x)) → In (hull (point (real 0)) (exp_over (point t ⊠ L))) (cond b (real 0) (exp_of (t ⊗ ln_of x)))
    go true k = hull_left (exp_over (point t ⊠ L)) (at (real 0))
    go false k = hull_right (point (real 0)) (⟨exp⟩ (at t ⟨⊗⟩ k refl))

-- ---- root
unfoldable pub root_steps_over : ℕ → Interval → Interval → Interval
root_steps_over zero X Y = Y
root_steps_over (suc n) X Y = (Y ⊞ X ÷ Y) ÷ point (real 2) ▶ root_steps_over n X

root_steps_lem : {X : Interval} {x : Float} (n : ℕ) {Y : Interval} {y : Float} → In X x → In Y y → In (root_steps_over n X Y) (root_steps n x y)
unfolding root_steps_over root_steps
root_steps_lem zero a b = b
root_steps_lem (suc n) a b = simp (computed, forced) (root_steps_lem n a ((b ⟨⊕⟩ a ⟨⊘⟩ b) ⟨⊘⟩ at (real 2)))

unfoldable pub root_over : Interval → Interval
root_over X = only_if (lies (real 1) X (real (10 ^ 8))) (root_steps_over 16 X (point (real 256)))

pub ⟨root⟩ : {X : Interval} {x : Float} → In X x → In (root_over X) (root_of x)
unfolding root_over root_of
⟨root⟩ a = within_holds (real 1) (real (10 ^ 8)) finite_1 finite_1e8 a (root_steps_lem 16 a (at (real 256)))
