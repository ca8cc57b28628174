-- `width` meets its contract: the digits counted and those of the rest are the number's, and one is counted twice.
use mathlib.Core.Path.{◌≡◌}
use Prim.Native.Nat.{◌+◌, ◌-◌}
use Rattle.lines.specs.Text.{width_of}
use Rattle.lines.proofs.text.width.Given as goal

abbrev pub invariant-loop-w : goal.invariant-loop-w
invariant-loop-w l = l.w + width_of (20 - l.w) l.rest ≡ width_of 19 l.n + 1
