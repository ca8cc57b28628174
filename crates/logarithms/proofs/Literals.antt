-- The literals of ln are the numbers of the definitions: each by computing both.
use mathlib.Core.Path.{◌≡◌, refl}
use Prim.Native.Nat.{◌^◌}
use lib.Dec.{T}
use lib.Ieee.{Float, binary64, of_bits, of_int, round}
use lib.Ieee.Scale.{finite}
use Rattle.arithmetic.specs.Checked.{real, ◌e-◌, two⁻, squash, between}

-- the test whether x lies in ln's range
pub lit_range : (x : Float) → between (of_bits binary64 0x3c30000000000000) x (of_bits binary64 0x43b0000000000000) ≡ between (two⁻ 60) x (real (2 ^ 60))
unfolding of_bits of_int round
lit_range x = refl

pub lit_ln2 : of_bits binary64 0x3fe62e42fefa39ef ≡ 6931471805599453 e- 16
unfolding of_bits round
lit_ln2 = refl

pub squash_ln2 : squash (6931471805599453 e- 16) ≡ 6931471805599453 e- 16
unfolding round
squash_ln2 = refl

pub finite_075 : T (finite (75 e- 2))
unfolding round
finite_075 = tt

pub finite_15 : T (finite (15 e- 1))
unfolding round
finite_15 = tt

pub finite_two⁻60 : T (finite (two⁻ 60))
unfolding round
finite_two⁻60 = tt

pub finite_two60 : T (finite (real (2 ^ 60)))
unfolding of_int round
finite_two60 = tt
