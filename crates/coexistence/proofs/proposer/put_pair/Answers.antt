-- `put_pair` meets its contract: two words are put, one after the other. Assumes nothing.
use mathlib.Core.Path.{◌∙◌}
use Rattle.words.proofs.Written.{two_words}
use Rattle.coexistence.proofs.proposer.put_pair.Goals as goal

pub returns : goal.returns
returns c =
    two_words _ _ c.args.out.now _ _ c.requires c.put_word.ensures c.put_word-2.ensures ∙ simp (c.bits.ensures, c.bits-2.ensures)
