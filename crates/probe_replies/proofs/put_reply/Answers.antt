-- `put_reply` meets its contract: the second word goes into the tail that the first left as it was. Assumes nothing.
use mathlib.Core.Path.{◌∙◌, ap}
use Prim.Native.Nat.{ℕ, ◌-◌}
use lib.ListN.{length, take, drop}
use Rattle.probe_replies.specs.Replies.{reply_bytes}
use Rattle.words.specs.Word.{with_word}
use Rattle.words.proofs.Written.{two_words}
use Rattle.probe_replies.proofs.put_reply.Goals as goal

pub returns : goal.returns
unfolding reply_bytes
returns c =
    two_words _ _ c.args.out.now _ _ c.requires
    (c.put_word.ensures ∙ ap (λ (n : ℕ). with_word n c.args.out.now) c.answer_code-code.ensures)
    (c.put_word-2.ensures ∙ ap (λ (n : ℕ). with_word n (take (length c.put_word.new.out - 8) (drop 8 c.put_word.new.out))) c.unwrap_or.ensures)
