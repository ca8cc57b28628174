-- `width` meets its contract: the digits counted and those of the rest are the number's, and one is counted twice.
use mathlib.Core.Path.{◌≡◌, ap, ◌∙◌}
use Prim.Native.Nat.{ℕ, suc, ◌+◌, ◌-◌, ◌/◌}
use native.Mathlib.Omega.{arith}
use Rattle.lines.specs.Text.{width_of}
use Rattle.lines.proofs.Digits.{one_digit, more_digits}
use Rattle.lines.proofs.text.width.Goals as goal

-- the twentieth digit is the last
last : (rest n w : ℕ) → w ≡ 20 → w + width_of (20 - w) rest ≡ width_of 19 n + 1 → 20 ≡ width_of 19 n
unfolding width_of
last rest n w e f = omega (arith, simp e at f)

pub returns-then-rest-lt10 : goal.returns-then-rest-lt10
returns-then-rest-lt10 c = omega (arith, one_digit (20 - c.loop-w.w) c.loop-w.rest c.if-rest-lt10.true)

pub loop-w-preserved : goal.loop-w-preserved
loop-w-preserved c =
    let next : 20 - c.loop-w.w - 1 ≡ 20 - (c.loop-w.w + 1) = omega arith in
    let more = more_digits (20 - c.loop-w.w) c.loop-w.rest (omega arith) c.if-rest-lt10.false ∙ ap (λ (k : ℕ). suc (width_of k (c.loop-w.rest / 10))) next in
    omega arith

pub returns : goal.returns
returns c = last c.loop-w.rest c.args.n c.loop-w.w (omega arith) c.loop-w.invariant
