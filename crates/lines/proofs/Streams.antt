-- A file read block by block: the lines of two pieces, the first of whole records, are those of the file, as those of every walk are.
use mathlib.Core.Path.{◌≡◌, ◌∙◌, ap}
use mathlib.Core.List.{List, ◌++◌}
use Prim.Native.Nat.{ℕ, ◌+◌, ◌*◌, ◌/◌, ◌^◌, ◌≤◌, ◌<◌}
use native.Mathlib.Omega.{arith}
use lib.ListN.{length}
use borrow.Author.Tests.{lt-ltb}
use Rattle.records.specs.Run.{record_count, record_at, gathered}
use Rattle.records.proofs.InTwo.{gathered_same, gathered_in_two}
use Rattle.lines.specs.Lines.{line_of, lines_up_to, lines_of, lines_fit, lines_put}

module _ (first : ℕ) (a b : List ℕ) (m : ℕ) (whole : length a ≡ 18 * m) where
  -- the numbers go on
  lines_after : gathered (λ j t. line_of (first + (m + j)) t) b (record_count b) ≡ lines_up_to (first + m) b (record_count b)
  unfolding lines_up_to
  lines_after =
      gathered_same (λ j t. line_of (first + (m + j)) t) (λ j t. line_of (first + m + j) t) b (record_count b)
      (λ j h. let number : first + (m + j) ≡ first + m + j = omega arith in ap (λ (n : ℕ). line_of n (record_at b j)) number)

  pub lines_in_two : lines_of first (a ++ b) ≡ lines_of first a ++ lines_of (first + m) b
  unfolding lines_of lines_up_to
  lines_in_two =
      let front : m ≡ record_count a = omega arith in
      gathered_in_two a b m whole (λ j t. line_of (first + j) t)
      ∙ ap (λ (l : List ℕ). lines_up_to first a m ++ l) lines_after
      ∙ ap (λ (n : ℕ). lines_up_to first a n ++ lines_up_to (first + m) b (record_count b)) front

-- the lines of a block that the program reads all fit its output: 3,640 records, and 64 bytes for each and 64 more
pub block_fits : (first : ℕ) (s out : List ℕ) → length s ≤ 65520 → 233024 ≤ length out → first + 65520 < 2 ^ 64 →
    lines_put first s out ≡ lines_of first s
unfolding lines_put lines_fit
block_fits first s out h g n =
    let room : length s / 18 < length out / 64 = omega arith in
    let numbers : first + length s < 2 ^ 64 = omega arith in
    simp (lt-ltb (length s / 18) (length out / 64) room, lt-ltb (first + length s) (2 ^ 64) numbers)
