-- `numbers` meets its contract: a number's word is that of the eight bytes that are its own, and 0 where the kind carries none.
-- Assumes nothing.
use mathlib.Core.Path.{◌≡◌, sym, ◌∙◌}
use Prim.Native.Nat.{ℕ}
use lib.ListN.{drop}
use Rattle.words.proofs.Front.{word_front}
use Rattle.records.specs.Record.{carried, numbers_of}
use Rattle.records.proofs.Laid.{carried_some, carried_none}
use Rattle.records.proofs.reader.numbers.Goals as goal

pub returns-then-carries_numbers : goal.returns-then-carries_numbers
unfolding numbers_of
returns-then-carries_numbers c =
    let some = sym c.carries_numbers.ensures ∙ c.if-carries_numbers.true in
    let whole : (w : ℕ) → carried c.args.kind w ≡ w = λ w. carried_some c.args.kind w some in
    simp (whole, c.word-then-carries_numbers.ensures ∙ word_front (drop 10 c.args.s.now), c.word.ensures ∙ word_front (drop 2 c.args.s.now))

pub returns-else-carries_numbers : goal.returns-else-carries_numbers
unfolding numbers_of
returns-else-carries_numbers c =
    let none = sym c.carries_numbers.ensures ∙ c.if-carries_numbers.false in
    let nothing : (w : ℕ) → carried c.args.kind w ≡ 0 = λ w. carried_none c.args.kind w none in
    simp nothing
