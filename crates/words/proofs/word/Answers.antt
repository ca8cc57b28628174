-- `word` meets its contract: byte for byte, each times its power of 256.
use native.Mathlib.Omega.{arith}
use Rattle.words.proofs.word.Goals as goal

pub returns : goal.returns
returns c =
    let byte = c.first_eight-bytes.ensures in
    omega (
      arith,
      byte 0 (omega arith),
      byte 1 (omega arith),
      byte 2 (omega arith),
      byte 3 (omega arith),
      byte 4 (omega arith),
      byte 5 (omega arith),
      byte 6 (omega arith),
      byte 7 (omega arith),
    )
