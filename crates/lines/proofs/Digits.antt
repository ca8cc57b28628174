-- How many digits are written: a number's decimal digits are at most twenty.
use mathlib.Core.Path.{◌≡◌, refl}
use mathlib.Core.Bool.{Bool, true, false, cond}
use Prim.Native.Nat.{ℕ, zero, suc, ◌-◌, ◌/◌, ◌≤◌, ◌<◌}
use native.Mathlib.Omega.{arith}
use native.Mathlib.Numerals.{sub-one}
use borrow.Author.Tests.{lt-ltb, le-ltb}
use lib.Dec.{ltb}
use lib.ListN.{length, length-append}
use Rattle.lines.specs.Text.{digits_of, width_of, decimal_of}

pub digits_length : (b k n : ℕ) → length (digits_of b k n) ≡ k
unfolding digits_of
digits_length b zero n = refl
digits_length b (suc k) n = simp (length-append, digits_length b k (n / b)) (omega arith)

pub one_digit : (k n : ℕ) → n < 10 → width_of k n ≡ 1
unfolding width_of
one_digit zero n h = refl
one_digit (suc k) n h = simp (lt-ltb _ _ h)

pub more_digits : (k n : ℕ) → 0 < k → 10 ≤ n → width_of k n ≡ suc (width_of (k - 1) (n / 10))
unfolding width_of
more_digits zero n h g = absurd (omega arith)
more_digits (suc k) n h g = simp (le-ltb _ _ g, sub-one)

width_bound : (k n : ℕ) → width_of k n ≤ suc k
unfolding width_of
width_bound zero n = omega arith
width_bound (suc k) n = go (ltb n 10) (width_bound k (n / 10))
  where
    go : (b : Bool) → width_of k (n / 10) ≤ suc k → cond b 1 (suc (width_of k (n / 10))) ≤ suc (suc k)
    go true h = omega arith
    go false h = omega arith

pub width_small : (n : ℕ) → width_of 19 n ≤ 20
width_small n = width_bound 19 n

pub decimal_small : (n : ℕ) → length (decimal_of n) ≤ 20
unfolding decimal_of
decimal_small n = rw (digits_length 10 (width_of 19 n) n) (width_small n)
