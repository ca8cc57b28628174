-- `put_answer` meets its contract: the code, then the bits.
use mathlib.Core.List.{append_assoc}
use native.Mathlib.Omega.{arith}
use lib.ListN.{length-append}
use Rattle.lines.specs.Lines.{answer_text}
use Rattle.lines.proofs.Digits.{decimal_small}
use Rattle.lines.proofs.put_answer.Goals as goal

pub put_bits-requires : goal.put_bits-requires
put_bits-requires c = rw c.put_number.ensures (simp length-append (omega (arith, decimal_small c.answer_code.result)))

pub returns : goal.returns
unfolding answer_text
returns c = simp (c.put_bits.ensures, c.put_number.ensures, c.answer_code.ensures, append_assoc)
