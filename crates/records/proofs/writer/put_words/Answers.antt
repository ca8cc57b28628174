-- `put_words` meets its contract: the second word goes into the tail that the first left as it was. Assumes nothing.
use Rattle.words.proofs.Written.{two_words}
use Rattle.records.proofs.writer.put_words.Goals as goal

pub returns : goal.returns
returns c =
    two_words _ _ c.args.out.now _ _ c.requires c.put_word.ensures c.put_word-2.ensures
