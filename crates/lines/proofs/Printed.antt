-- Lines printed into a list one after the other: the room that they take, one more, and the end.
use mathlib.Core.Path.{◌≡◌, refl, ◌∙◌, ap}
use mathlib.Core.List.{List, ◌++◌}
use Prim.Native.Nat.{ℕ, zero, suc, ◌+◌, ◌*◌, ◌≤◌}
use native.Mathlib.Omega.{arith}
use native.Mathlib.Numerals.{add-one}
use lib.ListN.{length, drop, length-append}
use Rattle.records.specs.Run.{record_count, record_at, gathered}
use Rattle.lines.specs.Text.{Put}
use Rattle.lines.specs.Lines.{line_of, lines_up_to, lines_of, lines_put}
use Rattle.lines.proofs.Lengths.{line_small}
use Rattle.lines.proofs.Placing.{nothing, then, as_text, put_length}

lines_small : (first : ℕ) (s : List ℕ) (k : ℕ) → length (lines_up_to first s k) ≤ 64 * k
unfolding lines_up_to gathered
lines_small first s zero = omega arith
lines_small first s (suc k) =
    omega (
      arith,
      length-append (lines_up_to first s k) (line_of (first + k) (record_at s k)),
      lines_small first s k,
      line_small (first + k) (record_at s k),
    )

-- the lines of the first k records of s are in out, which was out₀, and end at the place at
pub record Printed (first : ℕ) (s out₀ out : List ℕ) (k at : ℕ) : Type 0 where
  pub room : at ≤ 64 * k
  pub same : length out ≡ length out₀
  pub so_far : Put 0 (lines_up_to first s k) out₀ at out

pub none_yet : (first : ℕ) (s out : List ℕ) → Printed first s out out 0 0
unfolding lines_up_to gathered
none_yet first s out = record { room = omega arith; same = refl; so_far = nothing 0 out }

module _ (first : ℕ) (s out₀ out : List ℕ) (k at : ℕ) (h : Printed first s out₀ out k at) where
  pub one_more : (t next : List ℕ) (end : ℕ) → t ≡ record_at s k → 64 * (k + 1) ≤ length out₀ →
      Put at (line_of (first + k) t) out end next → Printed first s out₀ next (k + 1) end
  unfolding lines_up_to gathered
  one_more t next end e fits p =
      let small = lines_small first s k in
      let line = line_small (first + k) t in
      let both = then h.so_far p (omega arith) in
      let text : lines_up_to first s k ++ line_of (first + k) t ≡ lines_up_to first s (k + 1) =
      ap (λ (l : List ℕ). lines_up_to first s k ++ line_of (first + k) l) e ∙ simp add-one in
      let now = as_text text both in
      record {
        room = omega (arith, now.ends, lines_small first s (k + 1));
        same = put_length now (omega (arith, lines_small first s (k + 1)));
        so_far = now;
      }

  pub finished : k ≡ record_count s → Put 0 (lines_of first s) out₀ at out
  unfolding lines_of
  finished all = as_text (ap (lines_up_to first s) all) h.so_far

-- what was printed lies inside the list
pub lines_inside : (first : ℕ) (s out now : List ℕ) (r : ℕ) → r ≡ length (lines_put first s out) → now ≡ lines_put first s out ++ drop r out →
    r ≤ length now
lines_inside first s out now r p q = rw (q, length-append) (omega arith)
