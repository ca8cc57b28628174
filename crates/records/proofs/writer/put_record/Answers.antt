-- `put_record` meets its contract: the two words go into the tail that the mark left as it was. Assumes nothing.
use mathlib.Core.Path.{◌≡◌, sym, ◌∙◌}
use mathlib.Core.List.{List, ◌++◌}
use Prim.Native.Nat.{ℕ, ◌-◌, ◌≤◌}
use native.Mathlib.Omega.{arith}
use borrow.Rule.Slice.PartMut.{put_mid}
use lib.ListN.{length, take, drop}
use lib.Seq.{drop-drop}
use Rattle.words.specs.Word.{bytes_of}
use Rattle.words.proofs.Tail.{front_put}
use Rattle.fluids.specs.declared.Fluid.{Fluid}
use Rattle.records.specs.declared.Kind.{Kind}
use Rattle.records.specs.Record.{mark_of, carried, layout_of, with_record}
use Rattle.records.proofs.Laid.{mark_length, record_written, record_not_written}
use Rattle.records.proofs.writer.put_record.Goals as goal

-- a is s with the mark in front, and b its tail with the two words in front
mark_and_words : (kind : Kind) (F : Fluid) (x y : ℕ) {v w : ℕ} (s : List ℕ) {a b : List ℕ} → 18 ≤ length s → v ≡ carried kind x → w ≡ carried kind y →
    a ≡ mark_of kind F ++ drop 2 s → b ≡ (bytes_of v ++ bytes_of w) ++ drop 16 (take (length a - 2) (drop 2 a)) →
    put_mid 2 (length a - 2) a b ≡ with_record kind F x y s
unfolding layout_of
mark_and_words kind F x y {v} {w} s {a} {b} h e f p q =
    front_put (mark_of kind F) (drop 2 s) a b (bytes_of v ++ bytes_of w) 2 16 (mark_length kind F) p q
    ∙ simp (drop-drop, e, f, record_written kind F x y s h)

pub returns-then-out-lt-RECORD_LENGTH : goal.returns-then-out-lt-RECORD_LENGTH
returns-then-out-lt-RECORD_LENGTH c = sym (record_not_written _ _ _ _ _ c.if-out-lt-RECORD_LENGTH.true)

pub returns : goal.returns
returns c =
    mark_and_words c.args.kind c.args.fluid c.args.first c.args.second c.args.out.now (omega arith)
    c.word_carried-x.ensures c.word_carried-y.ensures c.put_mark.ensures c.put_words.ensures
