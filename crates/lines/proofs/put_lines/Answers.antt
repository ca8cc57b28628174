-- `put_lines` meets its contract: nothing where the lines do not fit, else all of them.
use mathlib.Core.Path.{◌≡◌, sym, ◌∙◌, ap}
use mathlib.Core.Bool.{true, false}
use mathlib.Core.List.{List, ◌++◌}
use Prim.Native.Nat.{ℕ, ◌+◌, ◌/◌, ◌^◌, ◌≤◌, ◌<◌}
use borrow.Author.Tests.{lt-ltb, le-ltb}
use native.Mathlib.Omega.{arith}
use lib.ListN.{length, drop}
use Rattle.lines.specs.Text.{Put}
use Rattle.lines.specs.Lines.{lines_fit, lines_of, lines_put}
use Rattle.lines.proofs.put_lines.Goals as goal

module _ (first : ℕ) (s out : List ℕ) where
  none_put : lines_fit first s out ≡ false → (0 ≡ length (lines_put first s out)) × (out ≡ lines_put first s out ++ out)
  unfolding lines_put
  none_put e = (simp e, simp e)

  all_put : {r : ℕ} {now : List ℕ} → lines_fit first s out ≡ true → Put 0 (lines_of first s) out r now →
      (r ≡ length (lines_put first s out)) × (now ≡ lines_put first s out ++ drop r out)
  unfolding lines_put
  all_put {r} {now} e p =
      let ends : r ≡ length (lines_of first s) = omega (arith, p.ends) in
      (ends ∙ simp e, p.whole ∙ ap (λ (k : ℕ). lines_of first s ++ drop k out) (sym p.ends) ∙ simp e)

  room_short : length out / 64 ≤ length s / 18 → lines_fit first s out ≡ false
  unfolding lines_fit
  room_short h = simp (le-ltb _ _ h)

  numbers_short : length s / 18 < length out / 64 → 2 ^ 64 ≤ first + length s → lines_fit first s out ≡ false
  unfolding lines_fit
  numbers_short h g = simp (lt-ltb _ _ h, le-ltb _ _ g)

  both_fit : length s / 18 < length out / 64 → first + length s < 2 ^ 64 → lines_fit first s out ≡ true
  unfolding lines_fit
  both_fit h g = simp (lt-ltb _ _ h, lt-ltb _ _ g)

pub returns-then-out-length : goal.returns-then-out-length
returns-then-out-length c =
    none_put c.args.first c.args.input.now c.args.out.now (room_short _ _ _ c.if-out-length.true)

pub returns-then-first-length : goal.returns-then-first-length
returns-then-first-length c =
    none_put c.args.first c.args.input.now c.args.out.now (numbers_short _ _ _ c.if-out-length.false (omega arith))

pub returns : goal.returns
returns c =
    all_put c.args.first c.args.input.now c.args.out.now (both_fit _ _ _ c.if-out-length.false (omega arith)) c.fitted_lines.ensures
