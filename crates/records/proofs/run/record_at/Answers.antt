-- `record_at` meets its contract: past the slice's end its two bounds are that end, where there is nothing to drop or to take.
use mathlib.Core.Path.{◌≡◌, ◌∙◌, ap}
use mathlib.Core.List.{List}
use Prim.Native.Nat.{ℕ, ◌-◌, ◌*◌, min}
use native.Mathlib.Omega.{arith}
use lib.ListN.{length, take, drop}
use Rattle.std.proofs.lemmas.List.{take_min, drop_min}
use Rattle.words.proofs.Tail.{tail_read}
use Rattle.records.specs.Run.{record_at}
use Rattle.records.proofs.run.record_at.Goals as goal

piece : (s : List ℕ) (k from n : ℕ) → from ≡ min (18 * k) (length s) → n ≡ min 18 (length (take (length s - from) (drop from s))) →
    take n (take (length s - from) (drop from s)) ≡ record_at s k
unfolding record_at
piece s k from n e f =
    ap (λ (m : ℕ). take m (take (length s - from) (drop from s))) f
    ∙ take_min 18 (take (length s - from) (drop from s))
    ∙ ap (take 18) (tail_read from s ∙ ap (λ (m : ℕ). drop m s) e ∙ drop_min (18 * k) s)

pub returns : goal.returns
returns c = piece c.args.s.now c.args.k c.min-from.result c.min.result (omega arith) (omega arith)
