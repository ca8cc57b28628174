-- `total` meets its contract. The loop's invariant: s is the sum over the pairs so far. Assumes nothing.
use mathlib.Core.Path.{◌≡◌, sym, ◌∙◌, ap}
use mathlib.Core.List.{List}
use Prim.Native.Nat.{ℕ, ◌+◌}
use native.Mathlib.Numerals.{add-one}
use lib.Ieee.{Float, binary64, add}
use lib.ListN.{get_or}
use Rattle.arithmetic.specs.Checked.{squash}
use Rattle.arithmetic.proofs.Operations.{squash_add}
use Rattle.arithmetic.proofs.Forced.{forced}
use Rattle.fluids.specs.declared.Pair.{Pair}
use Rattle.fluids.specs.Entry.{no_pair}
use Rattle.ideal.specs.Ideal.{total_to, total_of}
use native.Mathlib.Omega.{arith}
use Rattle.arithmetic.proofs.Literals.{lit_0, squash_0}
use Rattle.fluids.proofs.Sound.{sound}
use Rattle.ideal.proofs.total.Goals as goal

total_turn :
    (part : Pair → Float) (pairs : List Pair) (i : ℕ) (s x : Float) → squash s ≡ total_to part pairs i → squash x ≡ part (get_or pairs i no_pair) →
    squash (add binary64 s x) ≡ total_to part pairs (i + 1)
unfolding total_to
total_turn part pairs i s x p q = squash_add s x ∙ rw (add-one, p, q) (sym (forced _ _))

pub loop-i-init : goal.loop-i-init
unfolding total_to
loop-i-init g c = λ added gives. simp (lit_0, squash_0)

pub loop-i-preserved : goal.loop-i-preserved
loop-i-preserved g c =
    λ added gives. total_turn added _ _ _ _ (c.loop-i.invariant added gives) (gives _ _ (rw c.pairs-pairs.ensures at c.part-s.ensures))

pub returns : goal.returns
unfolding total_of
returns g c =
    let z : c.loop-i.i ≡ 3 = omega arith in
    λ added gives. c.loop-i.invariant added gives ∙ ap (total_to added _) (z ∙ sym (sound _).three)
