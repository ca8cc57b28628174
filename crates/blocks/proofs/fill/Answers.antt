-- What stands in the block after one more read: what stood there, and then the bytes that were read.
use Rattle.std.proofs.Common.{◌≡◌, ℕ, ◌+◌, ◌-◌, ◌≤◌, List, ◌++◌, rules, length, take, sym, ap, ◌∙◌, subst, le_refl, drop_at, length-take-le}
use Rattle.std.proofs.lemmas.Slice.{take-put_mid_below}
use Rattle.std.specs.Io.KnownBytes.{Consumes}
use Rattle.std.proofs.KnownBytes.{Consumes-trans, Consumes-kept}
use borrow.Rule.Slice.PartMut.{put_mid, post_of}
use lib.Seq.{take-add, take-append-le}
use Rattle.blocks.proofs.fill.Goals as goal
use Rattle.blocks.proofs.fill.Goals.{in-Ok, in-Err+else-ne}

read_on : (a k n : ℕ) (xs ys : List ℕ) → a ≤ length xs → n ≤ length ys → take a xs ++ take n ys ≡ take (a + n) (put_mid a k xs ys)
read_on a k n xs ys within fits =
    let behind = ap (take n) (drop_at (take a xs) (ys ++ post_of a k xs) a (length-take-le a xs within)) ∙ take-append-le n ys (post_of a k xs) fits in
    sym (take-add a n (put_mid a k xs ys) ∙ (λ i. take-put_mid_below a k xs ys a (le_refl a) within i ++ behind i))

pub loop-preserved : goal.loop-preserved
loop-preserved g c =
    let n = c.loop.n in
    let room = length c.loop.block - n in
    let filled = put_mid n room c.loop.block c.read.new.buf in
    let within = c.loop.invariant.1 in
    let so_far = c.loop.invariant.2 in
    elim c.match-read.branch [
      | in-Ok w ↦
          let more = read_on n room w.in-Ok.more c.loop.block c.read.new.buf within w.in-Ok.ensures.bound.0 in
          (search rules, search rules, subst (Consumes _ _) (more ∙ ap (λ m. take m filled) (sym w.n-is)) (Consumes-trans _ _ _ _ _ so_far w.in-Ok.ensures.bytes.0))
      | in-Err+else-ne w ↦
          let same = take-put_mid_below n room c.loop.block c.read.new.buf n (le_refl n) within in
          (search rules, search rules, subst (Consumes _ _) (sym same ∙ ap (λ m. take m filled) (sym w.n-is)) (Consumes-kept _ _ _ _ so_far w.in-Err.ensures.bytes))
    ]
