-- `read` meets its contract: the length first, then the mark. Assumes nothing.
use mathlib.Core.Path.{◌∙◌}
use borrow.Author.Tests.{eq-eqb, ne_eqb}
use Rattle.records.specs.Record.{record_of}
use Rattle.records.proofs.reader.read.Goals as goal

pub returns-in-Ok : goal.returns-in-Ok
unfolding record_of
returns-in-Ok c = c.marked.ensures ∙ simp (c.in-Ok.ensures.1.same, eq-eqb _ _ c.in-Ok.ensures.1.long)

pub returns-in-Err : goal.returns-in-Err
unfolding record_of
returns-in-Err c = simp (ne_eqb _ _ c.in-Err.ensures.1)
