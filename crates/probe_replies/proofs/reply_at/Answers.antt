-- `reply_at` meets its contract: the three words are those of the list, of its tail from 8 on and of its tail from 16 on.
-- Assumes nothing.
use mathlib.Core.Path.{◌∙◌}
use borrow.Author.Tests.{le-leb, lt-leb}
use Rattle.words.proofs.Tail.{tail_read}
use Rattle.probe_replies.specs.Replies.{reply_at}
use Rattle.probe_replies.proofs.reply_at.Goals as goal

pub returns-then-s-lt24 : goal.returns-then-s-lt24
unfolding reply_at
returns-then-s-lt24 c = simp (lt-leb 24 _ c.if-s-lt24.true)

pub returns : goal.returns
unfolding reply_at
returns c =
    c.reply_over.ensures
    ∙ simp (le-leb 24 _ c.if-s-lt24.false, c.word-call.ensures, c.word-first.ensures, c.word-second.ensures, tail_read)
