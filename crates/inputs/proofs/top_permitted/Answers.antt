-- `top_permitted` meets its contract: its two comparisons are those of the range, against the entry's own top. Assumes nothing.
use mathlib.Core.Path.{sym, ap}
use borrow.Author.Tests.{le-leb, lt-leb}
use lib.Dec.{leb}
use Rattle.fluids.specs.declared.Constants.{Constants}
use Rattle.inputs.proofs.top_permitted.Goals as goal

pub returns-then-c-ge1 : goal.returns-then-c-ge1
returns-then-c-ge1 c =
    let top = ap (λ (k : Constants). leb c.args.c k.top_cells) c.single_numbers-numbers.ensures in
    sym (simp (le-leb _ _ c.if-c-ge1.true, sym top))

pub returns-else-c-ge1 : goal.returns-else-c-ge1
returns-else-c-ge1 c = sym (simp (lt-leb _ _ c.if-c-ge1.false))
