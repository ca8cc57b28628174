-- `put_number` meets its contract: the digits, then a space.
use native.Mathlib.Omega.{arith}
use lib.ListN.{length-append}
use Rattle.lines.proofs.Digits.{decimal_small}
use Rattle.lines.proofs.put_number.Goals as goal

pub put_byte-requires : goal.put_byte-requires
put_byte-requires c = rw c.put_decimal.ensures (simp length-append (omega (arith, decimal_small c.args.n)))
