-- A finite binary64 is a fraction with a sign, and the order that the tests see is the order of these fractions.
use mathlib.Core.Path.{◌≡◌, refl}
use Prim.Native.Nat.{ℕ, ◌+◌, ◌*◌, ◌≤◌}
use native.Mathlib.Nat.{add-mul, mul-add, mul_assoc, mul_comm, mul_left_comm, add_assoc, add_comm, add_left_comm, mul-le-mul_right, le_of_mul-le-mul_right, lt_of_not-le}
use native.Mathlib.Omega.{arith}
use borrow.Author.Tests.{ltb-false, le-ltb}
use mathlib.Core.Bool.{true, false}
use lib.Dec.{T}
use lib.Ieee.{Float, nan, inf, fin, up, down, le, lt, is_nan}
pub use lib.Ieee.Bits.{is_true}
use lib.Ieee.Positive.{den, den_pos}
use lib.Ieee.Scale.{finite}
pub use Rattle.refusals.proofs.Tests.{holds}
use Rattle.arithmetic.proofs.Order as tests

pub chain : (x y z : Float) → T (le x y) → T (le y z) → T (le x z)
chain x y z h g = holds (le x z) (tests.le_trans x y z (is_true (le x y) h) (is_true (le y z) g))

-- sums of products in one order
pub ruleset rearranged = (add-mul, mul-add, mul_assoc, mul_comm, mul_left_comm, add_assoc, add_comm, add_left_comm)

-- x is (plus x − less x) / den x, and one of the two is 0
abbrev pub plus : Float → ℕ
plus nan = 0
plus (inf s) = 0
plus (fin true m e) = 0
plus (fin false m e) = m * up e

abbrev pub less : Float → ℕ
less nan = 0
less (inf s) = 0
less (fin true m e) = m * up e
less (fin false m e) = 0

-- x ≤ y, as fractions
abbrev pub Le : Float → Float → Type 0
Le x y = plus x * den y + less y * den x ≤ plus y * den x + less x * den y

-- ---- a test is an order of fractions, by the signs: x ≤ y fails where y < x alone, which is one test of two whole numbers
order_of_not_above : (x y : Float) → T (finite x) → T (finite y) → lt y x ≡ false → Le x y
unfolding lt
order_of_not_above nan y p q h = elim p [ ]
order_of_not_above (inf _) y p q h = elim p [ ]
order_of_not_above (fin false m e) nan p q h = elim q [ ]
order_of_not_above (fin false m e) (inf _) p q h = elim q [ ]
order_of_not_above (fin true m e) nan p q h = elim q [ ]
order_of_not_above (fin true m e) (inf _) p q h = elim q [ ]
order_of_not_above (fin false m e) (fin false n d) p q h = omega (arith, ltb-false (n * up d * down e) (m * up e * down d) h)
order_of_not_above (fin false m e) (fin true n d) p q h = omega (arith, ltb-false 0 (n * up d * down e + m * up e * down d) h)
order_of_not_above (fin true m e) (fin false n d) p q h = omega arith
order_of_not_above (fin true m e) (fin true n d) p q h = omega (arith, ltb-false (m * up e * down d) (n * up d * down e) h)

not_above_of_order : (x y : Float) → T (finite x) → T (finite y) → Le x y → lt y x ≡ false
unfolding lt
not_above_of_order nan y p q h = elim p [ ]
not_above_of_order (inf _) y p q h = elim p [ ]
not_above_of_order (fin false m e) nan p q h = elim q [ ]
not_above_of_order (fin false m e) (inf _) p q h = elim q [ ]
not_above_of_order (fin true m e) nan p q h = elim q [ ]
not_above_of_order (fin true m e) (inf _) p q h = elim q [ ]
not_above_of_order (fin false m e) (fin false n d) p q h = le-ltb (n * up d * down e) (m * up e * down d) (omega arith)
not_above_of_order (fin false m e) (fin true n d) p q h = le-ltb 0 (n * up d * down e + m * up e * down d) (omega arith)
not_above_of_order (fin true m e) (fin false n d) p q h = refl
not_above_of_order (fin true m e) (fin true n d) p q h = le-ltb (m * up e * down d) (n * up d * down e) (omega arith)

pub order_of_test : (x y : Float) → T (finite x) → T (finite y) → T (le x y) → Le x y
order_of_test x y p q t = order_of_not_above x y p q (tests.not_lt_of_le x y (is_true (le x y) t))

pub finite_number : (x : Float) → T (finite x) → is_nan x ≡ false
unfolding is_nan
finite_number nan p = elim p [ ]
finite_number (inf _) p = elim p [ ]
finite_number (fin s m e) p = refl

pub test_of_order : (x y : Float) → T (finite x) → T (finite y) → Le x y → T (le x y)
test_of_order x y p q h = holds (le x y) (tests.le_of_not_lt x y (finite_number x p) (finite_number y q) (not_above_of_order x y p q h))

-- ---- the order is total and transitive
pub Le_total : (x y : Float) → (Le x y → ⊥) → Le y x
Le_total x y h = let b = lt_of_not-le h in omega arith

pub Le_trans : (x y z : Float) → Le x y → Le y z → Le x z
Le_trans x y z h k =
    let a = mul-le-mul_right (den z) h in
    let b = mul-le-mul_right (den x) k in
    le_of_mul-le-mul_right {k = den y} (omega arith) (den_pos y)

pub Le_refl : (x : Float) → Le x x
Le_refl x = omega arith
