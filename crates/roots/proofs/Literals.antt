-- The literals of root are the numbers of the definitions: each by computing both.
use mathlib.Core.Path.{◌≡◌, refl}
use Prim.Native.Nat.{◌^◌}
use lib.Dec.{T}
use lib.Ieee.{Float, binary64, of_bits, of_int, round}
use lib.Ieee.Scale.{finite}
use Rattle.arithmetic.specs.Checked.{real, squash, between}

pub lit_256 : of_bits binary64 0x4070000000000000 ≡ real 256
unfolding of_bits of_int round
lit_256 = refl

-- the test whether x lies in root's range
pub lit_range : (x : Float) → between (of_bits binary64 0x3ff0000000000000) x (of_bits binary64 0x4197d78400000000) ≡ between (real 1) x (real (10 ^ 8))
unfolding of_bits of_int round
lit_range x = refl

pub squash_256 : squash (real 256) ≡ real 256
unfolding of_int round
squash_256 = refl

pub finite_1 : T (finite (real 1))
unfolding of_int round
finite_1 = tt

pub finite_1e8 : T (finite (real (10 ^ 8)))
unfolding of_int round
finite_1e8 = tt
