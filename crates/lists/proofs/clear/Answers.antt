-- `clear` meets its contract: c + 1 zeros in front are the first c + 1 places filled with them.
use mathlib.Core.Path.{◌≡◌, refl, sym, ap, ◌∙◌}
use mathlib.Core.List.{List, [], ◌∷◌, ◌++◌}
use Prim.Native.Nat.{ℕ, zero, suc, ◌+◌, ◌≤◌}
use native.Mathlib.Omega.{arith}
use lib.ListN.{length, take, drop, replicate}
use lib.Seq.{length-take-le}
use lib.Ieee.{Float}
use Rattle.arithmetic.specs.Checked.{real}
use Rattle.arithmetic.proofs.Literals.{lit_0}
use Rattle.search.specs.Lists.{filled}
use Rattle.lists.proofs.InRoom.{cleared_in_room, cleared_without}
use Rattle.lists.proofs.clear.Goals as goal

alike : (v : Float) (n : ℕ) (xs : List Float) → n ≤ length xs → replicate n v ++ drop n xs ≡ filled (λ j. v) n xs
unfolding filled
alike v zero xs h = refl
alike v (suc n) [] h = absurd (omega arith)
alike v (suc n) (x ∷ xs) h = ap (λ (ys : List Float). v ∷ ys) (alike v n xs (omega arith))

pub returns-then-c-list : goal.returns-then-c-list
returns-then-c-list c =
    let xs = c.args.list.now in
    let places : length (take (c.args.c + 1) xs) ≡ c.args.c + 1 = length-take-le (c.args.c + 1) xs (omega arith) in
    let zeros : c.fill.new.self ≡ replicate (c.args.c + 1) (real 0) = c.fill.ensures.after (λ y same. same) ∙ simp (places, lit_0) in
    ap (λ (front : List Float). front ++ drop (c.args.c + 1) xs) zeros
    ∙ alike (real 0) (c.args.c + 1) xs (omega arith)
    ∙ sym (cleared_in_room c.args.c xs (omega arith))

pub returns-else-c-list : goal.returns-else-c-list
returns-else-c-list c = cleared_without _ _ (omega arith)
