-- The parts of a record's layout, case by case: what a kind carries, and what a list holds once a record was put into it.
use mathlib.Core.Path.{◌≡◌, refl}
use mathlib.Core.Bool.{true, false}
use mathlib.Core.List.{List, ◌++◌}
use Prim.Native.Nat.{ℕ, ◌≤◌, ◌<◌}
use borrow.Author.Tests.{le-leb, lt-leb}
use lib.ListN.{length, drop, length-append}
use Rattle.words.proofs.Written.{bytes_length}
use Rattle.fluids.specs.declared.Fluid.{Fluid}
use Rattle.records.specs.declared.Kind.{Kind}
use Rattle.records.specs.Record.{mark_of, carries_numbers, carried, layout_of, with_record}

module _ (kind : Kind) where
  pub carried_some : (w : ℕ) → carries_numbers kind ≡ true → carried kind w ≡ w
  unfolding carried
  carried_some w e = simp e

  pub carried_none : (w : ℕ) → carries_numbers kind ≡ false → carried kind w ≡ 0
  unfolding carried
  carried_none w e = simp e

module _ (kind : Kind) (F : Fluid) where
  pub mark_length : length (mark_of kind F) ≡ 2
  unfolding mark_of
  mark_length = refl

  module _ (x y : ℕ) where
    pub layout_length : length (layout_of kind F x y) ≡ 18
    unfolding layout_of
    layout_length = simp (length-append, mark_length, bytes_length)

    module _ (s : List ℕ) where
      pub record_written : 18 ≤ length s → with_record kind F x y s ≡ layout_of kind F x y ++ drop 18 s
      unfolding with_record
      record_written h = simp (le-leb 18 (length s) h)

      pub record_not_written : length s < 18 → with_record kind F x y s ≡ s
      unfolding with_record
      record_not_written h = simp (lt-leb 18 (length s) h)
