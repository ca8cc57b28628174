-- A record put into the part of a buffer from a place on, once that part is back: the 18 bytes stand at the place.
use mathlib.Core.Path.{◌≡◌, ◌∙◌, ap}
use mathlib.Core.Bool.{true, false}
use mathlib.Core.List.{List, ◌++◌}
use Prim.Native.Nat.{ℕ, ◌+◌, ◌-◌, ◌≤◌}
use native.Mathlib.Omega.{arith}
use borrow.Rule.Slice.PartMut.{put_mid}
use lib.Dec.{leb}
use lib.ListN.{length, take, drop, length-drop}
use lib.Seq.{drop-drop}
use Rattle.refusals.specs.declared.Refusal.TheVariants.{TooShort}
use Rattle.refusals.specs.Code.{code_of}
use Rattle.words.specs.Word.{placed}
use Rattle.words.proofs.Tail.{tail_read, tail_back}
use Rattle.fluids.specs.declared.Fluid.{Fluid}
use Rattle.records.specs.declared.Kind.{Kind}
use Rattle.records.specs.Record.{layout_of, with_record}
use Rattle.records.proofs.Laid.{layout_length, record_written}
use Rattle.writing.specs.Write.{written_at}

module _ (kind : Kind) (F : Fluid) (x y : ℕ) (buffer : List ℕ) (place : ℕ) where
  pub with_room : leb (place + 18) (length buffer) ≡ true → written_at kind F x y buffer place ≡ (0, placed place (layout_of kind F x y) buffer)
  unfolding written_at
  with_room e = simp e

  pub without_room : leb (place + 18) (length buffer) ≡ false → written_at kind F x y buffer place ≡ (code_of TooShort, buffer)
  unfolding written_at
  without_room e = simp e

  pub record_placed : (p : List ℕ) → place + 18 ≤ length buffer → p ≡ with_record kind F x y (take (length buffer - place) (drop place buffer)) →
      put_mid place (length buffer - place) buffer p ≡ placed place (layout_of kind F x y) buffer
  record_placed p room e =
      let tail = drop place buffer in
      let long : 18 ≤ length tail = rw length-drop (omega arith) in
      let written : p ≡ layout_of kind F x y ++ drop (place + 18) buffer =
      e ∙ ap (with_record kind F x y) (tail_read place buffer) ∙ record_written kind F x y tail long ∙ simp drop-drop in
      tail_back place buffer p (omega arith) ∙ simp (written, layout_length kind F x y)
