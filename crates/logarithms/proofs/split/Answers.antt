-- `split` meets its contract: it reads x's digits and field, puts the digits under m's field, and takes the difference of the
-- two fields, which is small. Assumes nothing.
use mathlib.Core.Path.{◌≡◌, ◌∙◌, ap}
use mathlib.Core.Bool.{Bool, true, false, cond, not}
use Prim.Native.Nat.{ℕ, zero, suc, ◌^◌, ◌+◌, ◌-◌, ◌*◌, ◌<◌, ◌≤◌}
use native.Mathlib.Omega.{arith}
use lib.Dec.{T, ltb, le→leb, lt→ltb}
use lib.IntN.{ℤ, pos, negsuc, ◌-ℤ◌}
use lib.Signed.{mag}
use lib.Ieee.{Float, binary64, in_float, of_int, of_bits, nan_bits}
use mir.Syntax.{w64}
use mir.Val.{to_z, of_z, Fits, SFits}
use mir.Facts.{to_z_pos, to_z-of_z}
use Rattle.logarithms.specs.Ln.{m_of, e_of, m_field, field, digits}
use Rattle.logarithms.proofs.Fields.{m_pattern_no_nan, m_pattern_fits, m_field_small}
use Rattle.logarithms.proofs.ExactSplit.{m_low, m_high}
use Rattle.logarithms.proofs.split.Goals as goal

-- ---- the difference of two fields
difference_small : (a b : ℕ) → a < 2048 → b ≤ 1023 → mag (pos a -ℤ pos b) < 2048
difference_small a zero p q = omega arith
difference_small a (suc b) p q = go (ltb a (suc b))
  where
    go : (t : Bool) → mag (cond t (negsuc (suc b - suc a)) (pos (a - suc b))) < 2048
    go true = omega arith
    go false = omega arith

in_float_lem : (z : ℤ) → mag z < 2048 → T (in_float binary64 z)
unfolding in_float
in_float_lem (pos n) h = le→leb n (2 ^ 53) (omega arith)
in_float_lem (negsuc n) h = lt→ltb n (2 ^ 53) (omega arith)

module _ (a b : ℕ) (p : a < 2048) (q : b ≤ 1023) where
  read_back : to_z w64 a -ℤ to_z w64 b ≡ pos a -ℤ pos b
  read_back = simp (to_z_pos w64 {n = a} (omega arith), to_z_pos w64 {n = b} (omega arith))

  difference_fits : SFits w64 (to_z w64 a -ℤ to_z w64 b)
  difference_fits = rw read_back (record { sfits = small })
    where
      small : mag (pos a -ℤ pos b) < 2 ^ 63
      small = let h = difference_small a b p q in omega arith

  difference_is : to_z w64 (of_z w64 (to_z w64 a -ℤ to_z w64 b)) ≡ pos a -ℤ pos b
  difference_is = to_z-of_z difference_fits ∙ read_back

  difference_in_float : T (in_float binary64 (to_z w64 (of_z w64 (to_z w64 a -ℤ to_z w64 b))))
  difference_in_float = rw difference_is (in_float_lem (pos a -ℤ pos b) (difference_small a b p q))

-- ---- what the code works with x's digits t and the field r that `m_field` gives
module _ (x : Float) (r : ℕ) (e : r ≡ m_field (digits x)) where
  digits_below : digits x < 2 ^ 52
  digits_below = omega arith

  field_below : field x < 2048
  field_below = omega arith

  under_small : r ≤ 1023
  under_small = rw e (m_field_small (digits x))

  pattern_fits : Fits w64 (r * 2 ^ 52 + digits x)
  pattern_fits = record { fits = rw e (m_pattern_fits (digits x) digits_below) }

  pattern_no_nan : T (not (nan_bits binary64 (r * 2 ^ 52 + digits x)))
  pattern_no_nan = rw e (m_pattern_no_nan (digits x) digits_below)

  m_is : of_bits binary64 (r * 2 ^ 52 + digits x) ≡ m_of x
  unfolding m_of
  m_is = simp e

  exponent_fits : SFits w64 (to_z w64 (field x) -ℤ to_z w64 r)
  exponent_fits = difference_fits (field x) r field_below under_small

  exponent_in_float : T (in_float binary64 (to_z w64 (of_z w64 (to_z w64 (field x) -ℤ to_z w64 r))))
  exponent_in_float = difference_in_float (field x) r field_below under_small

  exponent_is : to_z w64 (of_z w64 (to_z w64 (field x) -ℤ to_z w64 r)) ≡ e_of x
  unfolding e_of
  exponent_is = difference_is (field x) r field_below under_small ∙ ap (λ (n : ℕ). pos (field x) -ℤ pos n) e

pub overflow_mul-pattern : goal.overflow_mul-pattern
overflow_mul-pattern c = omega (arith, under_small c.args.x c.m_field-under.result c.m_field-under.ensures)

pub overflow_add-pattern : goal.overflow_add-pattern
overflow_add-pattern c = pattern_fits c.args.x _ c.m_field-under.ensures

pub float_from_bits-m : goal.float_from_bits-m
float_from_bits-m c = pattern_no_nan c.args.x _ c.m_field-under.ensures

pub overflow_cast-below : goal.overflow_cast-below
overflow_cast-below c = omega (arith, under_small c.args.x c.m_field-under.result c.m_field-under.ensures)

pub overflow_sub-exponent : goal.overflow_sub-exponent
overflow_sub-exponent c = exponent_fits c.args.x _ c.m_field-under.ensures

pub int_to_float-e : goal.int_to_float-e
int_to_float-e c = exponent_in_float c.args.x _ c.m_field-under.ensures

pub invariant_of-result : goal.invariant_of-result
invariant_of-result c = rw (m_is c.args.x _ c.m_field-under.ensures) (record { inside = (m_low c.args.x, m_high c.args.x) })

pub returns : goal.returns
returns c =
    (m_is c.args.x _ c.m_field-under.ensures, ap (of_int binary64) (exponent_is c.args.x _ c.m_field-under.ensures))
