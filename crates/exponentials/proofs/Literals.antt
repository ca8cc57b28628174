-- The literals of exp are the numbers of the definitions: each by computing both.
use mathlib.Core.Path.{◌≡◌, refl}
use lib.Dec.{T}
use lib.Ieee.{Float, neg, binary64, of_bits, of_int, round}
use lib.Ieee.Scale.{finite}
use Rattle.arithmetic.specs.Checked.{real, two⁻, squash, minus, between}

-- the test whether x lies in exp's range
pub lit_range : (x : Float) → between (neg (of_bits binary64 0x4085e00000000000)) x (of_bits binary64 0x4085e00000000000) ≡ between (minus (real 700)) x (real 700)
unfolding of_bits of_int round neg minus
lit_range x = refl

pub lit_two⁻10 : of_bits binary64 0x3f50000000000000 ≡ two⁻ 10
unfolding of_bits round
lit_two⁻10 = refl

pub squash_two⁻10 : squash (two⁻ 10) ≡ two⁻ 10
unfolding round
squash_two⁻10 = refl

pub finite_700 : T (finite (real 700))
unfolding of_int round
finite_700 = tt

pub finite_minus_700 : T (finite (minus (real 700)))
unfolding of_int round minus neg
finite_minus_700 = tt
