-- `steps` meets its contract. The loop's invariant: the steps that are left, from the present y, end where all sixteen do from
-- 256. Assumes nothing.
use mathlib.Core.Path.{◌≡◌, refl, sym, ◌∙◌}
use mathlib.Core.Bool.{Bool}
use Prim.Native.Nat.{◌-◌, ◌+◌}
use native.Mathlib.Omega.{arith}
use lib.Ieee.{Float, nan, inf, fin, binary64, add, div}
use Rattle.arithmetic.specs.Checked.{squash, ◌⊕◌, ◌⊘◌}
use Rattle.roots.specs.Root.{root_steps}
use Rattle.arithmetic.proofs.Operations.{nan_⊕, squash_add, squash_div, squash_over}
use Rattle.roots.proofs.Turns.{root_turn}
use Rattle.arithmetic.proofs.Literals.{lit_2}
use Rattle.roots.proofs.Literals.{lit_256, squash_256}
use Rattle.roots.proofs.steps.Goals as goal

step_inf : (x : Float) (s : Bool) → squash (add binary64 (inf s) (div binary64 x (inf s))) ≡ nan
unfolding add div
step_inf nan s = refl
step_inf (inf t) s = refl
step_inf (fin t n d) s = refl

-- an infinite y stays infinite, though x/y is 0: so the code need not test its divisor
step : (x y : Float) → squash (add binary64 y (div binary64 x y)) ≡ squash y ⊕ squash x ⊘ squash y
step x nan = squash_add nan (div binary64 x nan) ∙ simp (squash_over)
step x (inf s) = step_inf x s ∙ sym (nan_⊕ _).0
step x (fin s m e) = squash_add (fin s m e) (div binary64 x (fin s m e)) ∙ simp (squash_div x (fin s m e) tt)

pub loop-init : goal.loop-init
loop-init c = simp (lit_256, squash_256)

pub loop-preserved : goal.loop-preserved
loop-preserved c =
    let left : 16 - (c.loop.counter + 1) ≡ 16 - c.loop.counter - 1 = omega arith in
    rw left (simp (squash_over, step, lit_2) (sym (root_turn (squash c.args.x) (squash c.loop.y) (16 - c.loop.counter) (omega arith)) ∙ c.loop.invariant))

pub returns : goal.returns
unfolding root_steps
returns c =
    let none : 16 - c.loop.counter ≡ 0 = omega arith in
    rw none at c.loop.invariant
