-- `first_eight` meets its contract: the slice's bytes stand before zeros, which `byte_at` gives past its end too.
use mathlib.Core.Path.{◌≡◌, ◌∙◌, ap}
use mathlib.Core.List.{List, ◌++◌}
use Prim.Native.Nat.{ℕ, ◌<◌, min}
use native.Mathlib.Omega.{arith}
use lib.ListN.{length, take, drop, replicate, length-take, length-drop, get_or-append, get_or-eq_default}
use lib.Seq.{get_or-take, get_or-drop, get_or-append_right}
use Rattle.std.proofs.lemmas.List.{get_or-replicate}
use Rattle.words.specs.Word.{byte_at}
use Rattle.words.proofs.first_eight.Goals as goal

module _ (s : List ℕ) (n k : ℕ) (all : n ≡ min (length s) 8) (below : k < 8) where
  padded : byte_at (take n s ++ drop n (replicate 8 0)) k ≡ byte_at s k
  padded = grind (arith, get_or-append, get_or-append_right, get_or-take, get_or-drop, get_or-eq_default, get_or-replicate, length-take, length-drop, length-take, length-drop)

pub returns : goal.returns
returns c = λ k below. ap (λ (l : List ℕ). byte_at (l ++ drop c.min-there.result (replicate 8 0)) k) c.copy_from_slice.ensures.after ∙ padded c.args.s.now c.min-there.result k c.min-there.ensures below
