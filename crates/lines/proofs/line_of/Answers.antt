-- `line_of` meets its contract: field after field, then the line's end.
use mathlib.Core.List.{append_assoc}
use native.Mathlib.Omega.{arith}
use lib.ListN.{length-append}
use Rattle.lines.specs.Lines.{line_of}
use Rattle.lines.proofs.Digits.{decimal_small}
use Rattle.lines.proofs.Lengths.{mark_length, answer_small}
use Rattle.lines.proofs.line_of.Goals as goal

pub put_mark-requires : goal.put_mark-requires
put_mark-requires c = rw (c.put_number.ensures, c.new-line.ensures) (simp length-append (omega (arith, decimal_small c.args.n)))

pub put_answer-requires : goal.put_answer-requires
put_answer-requires c =
    rw (c.put_mark.ensures, c.put_number.ensures, c.new-line.ensures)
    (simp (length-append, mark_length) (omega (arith, decimal_small c.args.n)))

pub put_byte-requires : goal.put_byte-requires
put_byte-requires c =
    rw (c.put_answer.ensures, c.put_mark.ensures, c.put_number.ensures, c.new-line.ensures)
    (simp (length-append, mark_length) (omega (arith, decimal_small c.args.n, answer_small c.answer.result)))

pub returns : goal.returns
unfolding line_of
returns c = simp (c.put_byte.ensures, c.put_answer.ensures, c.put_mark.ensures, c.put_number.ensures, c.new-line.ensures, c.answer.ensures, append_assoc)
