-- A sum, a product and a quotient are fractions (p − n) / c rounded, and rounding keeps the order of fractions, whatever the signs.
use mathlib.Core.Path.{◌≡◌, refl, sym, ap, ◌∙◌, subst₂}
use mathlib.Core.Logic.{◌⊎◌, inl, inr}
use Prim.Native.Nat.{ℕ, suc, ◌+◌, ◌-◌, ◌*◌, ◌≤◌, ◌<◌}
use native.Mathlib.Nat.{mul-le-mul_right, le_of_mul-le-mul_right}
use native.Mathlib.Omega.{arith}
use mathlib.Core.Bool.{Bool, true, false, not, ◌&&◌, cond, true≢false}
use borrow.Author.Tests.{ne_eqb}
use lib.IntN.{ℤ}
use lib.Dec.{T, ltb, eqb, ltb→lt, nltb→le}
use lib.Pow.{pow_pos}
use lib.Ieee.{Float, nan, inf, fin, Format, emax, low, prec, up, down, round, sum, add, mul, div, neg, le}
use lib.Ieee.Exact.{HasValue, round_exact}
use lib.Ieee.Positive.{den, positive}
use lib.Ieee.Scale.{finite}
use lib.Ieee.Order.{round_mono}
use Rattle.arithmetic.proofs.Signed.{Signed, round_signed, round_neg}
use Rattle.intervals.proofs.Fractions.{plus, less, Le, order_of_test, test_of_order}

-- ---- the sign goes through
neg_below : (x y : Float) → Signed true x → Signed false y → T (le x y)
unfolding le
neg_below nan y p q = elim p [ ]
neg_below (inf true) nan p q = elim q [ ]
neg_below (fin true m e) nan p q = elim q [ ]
neg_below (inf true) (inf false) p q = tt
neg_below (inf true) (fin t n d) p q = tt
neg_below (inf false) y p q = absurd (true≢false (sym p))
neg_below (fin true m e) (inf false) p q = tt
neg_below (fin false m e) y p q = absurd (true≢false (sym p))
neg_below (inf true) (inf true) p q = absurd (true≢false q)
neg_below (fin true m e) (inf true) p q = absurd (true≢false q)
neg_below (fin true m e) (fin true n d) p q = absurd (true≢false q)
neg_below (fin true m e) (fin false n d) p q = test_of_order (fin true m e) (fin false n d) tt tt (omega arith)

neg_anti : (x y : Float) → Signed false x → Signed false y → T (le x y) → T (le (neg y) (neg x))
unfolding le neg
neg_anti nan y p q t = elim p [ ]
neg_anti (inf false) nan p q t = elim q [ ]
neg_anti (fin false m e) nan p q t = elim q [ ]
neg_anti (inf false) (inf false) p q t = tt
neg_anti (inf false) (fin u n d) p q t = absurd t
neg_anti (inf true) y p q t = absurd (true≢false p)
neg_anti (fin true m e) y p q t = absurd (true≢false p)
neg_anti (inf false) (inf true) p q t = absurd (true≢false q)
neg_anti (fin false m e) (inf true) p q t = absurd (true≢false q)
neg_anti (fin false m e) (fin true n d) p q t = absurd (true≢false q)
neg_anti (fin false m e) (inf false) p q t = tt
neg_anti (fin false m e) (fin false n d) p q t = let h = order_of_test (fin false m e) (fin false n d) tt tt t in test_of_order (fin true n d) (fin true m e) tt tt (omega arith)

pub signs_apart : (f : Format) (a c b d : ℕ) → T (le (round f true a c) (round f false b d))
signs_apart f a c b d = neg_below (round f true a c) (round f false b d) (round_signed f true a c) (round_signed f false b d)

pub round_anti : (f : Format) (a b c d : ℕ) → 0 < b → 0 < d → a * d ≤ c * b → T (le (round f true c d) (round f true a b))
round_anti f a b c d B D h =
    subst₂ (λ (u v : Float). T (le u v)) (sym (round_neg f false c d)) (sym (round_neg f false a b))
    (neg_anti (round f false a b) (round f false c d) (round_signed f false a b) (round_signed f false c d) (round_mono f a b c d B D h))

-- ---- zero
zeros : (x y : Float) (s t : Bool) (c d : ℕ) → 0 < c → 0 < d → HasValue x s 0 c → HasValue y t 0 d → T (le x y)
zeros nan y s t c d C D h g = elim h [ ]
zeros (inf _) y s t c d C D h g = elim h [ ]
zeros (fin u m e) nan s t c d C D h g = elim g [ ]
zeros (fin u m e) (inf _) s t c d C D h g = elim g [ ]
zeros (fin u m e) (fin v n k) s t c d C D h g =
    let a : m * up e ≤ 0 = le_of_mul-le-mul_right {k = c} (let z = h.1 in omega arith) C in
    let b : n * up k ≤ 0 = le_of_mul-le-mul_right {k = d} (let z = g.1 in omega arith) D in
    test_of_order (fin u m e) (fin v n k) tt tt (flat u v m e n k a b)
  where
    flat : (u v : Bool) (m : ℕ) (e : ℤ) (n : ℕ) (k : ℤ) → m * up e ≤ 0 → n * up k ≤ 0 → Le (fin u m e) (fin v n k)
    flat true true m e n k a b = let a' = mul-le-mul_right (down k) a in let b' = mul-le-mul_right (down e) b in omega arith
    flat true false m e n k a b = let a' = mul-le-mul_right (down k) a in let b' = mul-le-mul_right (down e) b in omega arith
    flat false true m e n k a b = let a' = mul-le-mul_right (down k) a in let b' = mul-le-mul_right (down e) b in omega arith
    flat false false m e n k a b = let a' = mul-le-mul_right (down k) a in let b' = mul-le-mul_right (down e) b in omega arith

round_zero : (f : Format) (s : Bool) (c : ℕ) → 0 < c → HasValue (round f s 0 c) s 0 c
round_zero f s c C = round_exact f s 0 c 0 0 C (pow_pos (prec f)) (pow_pos (low f + suc (emax f))) (omega arith)

-- ---- a rounded difference
abbrev pub Rounds : Format → Float → ℕ → ℕ → ℕ → Type 0
Rounds f x p n c = ((n ≤ p) × (x ≡ round f false (p - n) c)) ⊎ ((p ≤ n) × (x ≡ round f true (n - p) c))

cross : (p n c p' n' c' : ℕ) → n ≤ p → n' ≤ p' → p * c' + n' * c ≤ p' * c + n * c' → (p - n) * c' ≤ (p' - n') * c
cross p n c p' n' c' h k l = go (p - n) (p' - n') (omega arith) (omega arith)
  where
    go : (u u' : ℕ) → p ≡ u + n → p' ≡ u' + n' → u * c' ≤ u' * c
    go u u' e e' =
        let a : p * c' ≡ (u + n) * c' = ap (λ (z : ℕ). z * c') e in
        let b : p' * c ≡ (u' + n') * c = ap (λ (z : ℕ). z * c) e' in
        omega arith

nothing_left : (p n : ℕ) → p ≤ n → 0 ≡ p - n
nothing_left p n h = omega arith

pub rounds_mono : (f : Format) (x y : Float) (p n c p' n' c' : ℕ) → 0 < c → 0 < c' → Rounds f x p n c → Rounds f y p' n' c' → p * c' + n' * c ≤ p' * c + n * c' → T (le x y)
rounds_mono f x y p n c p' n' c' C C' (inl (h, e)) (inl (k, g)) l =
    subst₂ (λ (u v : Float). T (le u v)) (sym e) (sym g) (round_mono f (p - n) c (p' - n') c' C C' (cross p n c p' n' c' h k l))
rounds_mono f x y p n c p' n' c' C C' (inl (h, e)) (inr (k, g)) l =
    let a = mul-le-mul_right c' h in
    let b = mul-le-mul_right c k in
    let i : p ≤ n = le_of_mul-le-mul_right {k = c'} (omega arith) C' in
    let j : n' ≤ p' = le_of_mul-le-mul_right {k = c} (omega arith) C in
    subst₂ (λ (u v : Float). T (le u v)) (sym e) (sym g)
    (subst₂ (λ (u v : ℕ). T (le (round f false u c) (round f true v c'))) (nothing_left p n i) (nothing_left n' p' j)
    (zeros (round f false 0 c) (round f true 0 c') false true c c' C C' (round_zero f false c C) (round_zero f true c' C')))
rounds_mono f x y p n c p' n' c' C C' (inr (h, e)) (inl (k, g)) l =
    subst₂ (λ (u v : Float). T (le u v)) (sym e) (sym g) (neg_below (round f true (n - p) c) (round f false (p' - n') c') (round_signed f true (n - p) c) (round_signed f false (p' - n') c'))
rounds_mono f x y p n c p' n' c' C C' (inr (h, e)) (inr (k, g)) l =
    subst₂ (λ (u v : Float). T (le u v)) (sym e) (sym g) (round_anti f (n' - p') c' (n - p) c C' C (cross n' p' c' n p c k h (omega arith)))

-- ---- what an operation's result is
pub rounds_up : (f : Format) (x : Float) (a p n c : ℕ) → p ≡ a + n → x ≡ round f false a c → Rounds f x p n c
rounds_up f x a p n c e g = inl (omega arith, g ∙ ap (λ (z : ℕ). round f false z c) (let w : a ≡ p - n = omega arith in w))

pub rounds_down : (f : Format) (x : Float) (a p n c : ℕ) → n ≡ a + p → x ≡ round f true a c → Rounds f x p n c
rounds_down f x a p n c e g = inr (omega arith, g ∙ ap (λ (z : ℕ). round f true z c) (let w : a ≡ n - p = omega arith in w))

-- ±a / c + ±b / c
abbrev part : Bool → ℕ → ℕ
part true a = a
part false a = 0

signed_sum : (f : Format) (s : Bool) (a : ℕ) (t : Bool) (b c : ℕ) → Rounds f (sum f s a t b c) (part (not s) a + part (not t) b) (part s a + part t b) c
unfolding sum
signed_sum f false a false b c = rounds_up f _ (a + b) (a + b) (0 + 0) c (omega arith) refl
signed_sum f true a true b c = rounds_down f _ (a + b) (0 + 0) (a + b) c (omega arith) refl
signed_sum f false a true b c = go (ltb a b) (ltb→lt a b) (nltb→le a b)
  where
    go : (z : Bool) → (T z → a < b) → (T (not z) → b ≤ a) → Rounds f (cond z (round f true (b - a) c) (round f false (a - b) c)) (a + 0) (0 + b) c
    go true k l = let h = k tt in rounds_down f _ (b - a) (a + 0) (0 + b) c (omega arith) refl
    go false k l = let h = l tt in rounds_up f _ (a - b) (a + 0) (0 + b) c (omega arith) refl
signed_sum f true a false b c = go (ltb a b) (ltb b a) (ltb→lt a b) (nltb→le a b) (ltb→lt b a) (nltb→le b a)
  where
    go : (z w : Bool) → (T z → a < b) → (T (not z) → b ≤ a) → (T w → b < a) → (T (not w) → a ≤ b)
        → Rounds f (cond z (round f false (b - a) c) (round f (true && w) (a - b) c)) (0 + b) (a + 0) c
    go true w k l i j = let h = k tt in rounds_up f _ (b - a) (0 + b) (a + 0) c (omega arith) refl
    go false true k l i j = let h = l tt in rounds_down f _ (a - b) (0 + b) (a + 0) c (omega arith) refl
    go false false k l i j = let h = l tt in let g = j tt in rounds_up f _ (a - b) (0 + b) (a + 0) c (omega arith) refl

pub rounds_same : (f : Format) (x : Float) (p n p' n' c : ℕ) → p ≡ p' → n ≡ n' → Rounds f x p n c → Rounds f x p' n' c
rounds_same f x p n p' n' c e g h = subst₂ (λ (u v : ℕ). Rounds f x u v c) e g h

pub sum_rounds : (f : Format) (x y : Float) → T (finite x) → T (finite y) → Rounds f (add f x y) (plus x * den y + plus y * den x) (less x * den y + less y * den x) (den x * den y)
unfolding add
sum_rounds f nan y p q = elim p [ ]
sum_rounds f (inf _) y p q = elim p [ ]
sum_rounds f (fin false m e) nan p q = elim q [ ]
sum_rounds f (fin false m e) (inf _) p q = elim q [ ]
sum_rounds f (fin true m e) nan p q = elim q [ ]
sum_rounds f (fin true m e) (inf _) p q = elim q [ ]
sum_rounds f (fin false m e) (fin false n d) p q = rounds_same f _ _ _ _ _ _ (omega arith) (omega arith) (signed_sum f false (m * up e * down d) false (n * up d * down e) (down e * down d))
sum_rounds f (fin false m e) (fin true n d) p q = rounds_same f _ _ _ _ _ _ (omega arith) (omega arith) (signed_sum f false (m * up e * down d) true (n * up d * down e) (down e * down d))
sum_rounds f (fin true m e) (fin false n d) p q = rounds_same f _ _ _ _ _ _ (omega arith) (omega arith) (signed_sum f true (m * up e * down d) false (n * up d * down e) (down e * down d))
sum_rounds f (fin true m e) (fin true n d) p q = rounds_same f _ _ _ _ _ _ (omega arith) (omega arith) (signed_sum f true (m * up e * down d) true (n * up d * down e) (down e * down d))

pub product_rounds : (f : Format) (x y : Float) → T (finite x) → T (finite y) → Rounds f (mul f x y) (plus x * plus y + less x * less y) (plus x * less y + less x * plus y) (den x * den y)
unfolding mul
product_rounds f nan y p q = elim p [ ]
product_rounds f (inf _) y p q = elim p [ ]
product_rounds f (fin false m e) nan p q = elim q [ ]
product_rounds f (fin false m e) (inf _) p q = elim q [ ]
product_rounds f (fin true m e) nan p q = elim q [ ]
product_rounds f (fin true m e) (inf _) p q = elim q [ ]
product_rounds f (fin false m e) (fin false n d) p q = rounds_up f _ (m * up e * (n * up d)) _ _ _ (omega arith) refl
product_rounds f (fin false m e) (fin true n d) p q = rounds_down f _ (m * up e * (n * up d)) _ _ _ (omega arith) refl
product_rounds f (fin true m e) (fin false n d) p q = rounds_down f _ (m * up e * (n * up d)) _ _ _ (omega arith) refl
product_rounds f (fin true m e) (fin true n d) p q = rounds_up f _ (m * up e * (n * up d)) _ _ _ (omega arith) refl

not_0 : (n : ℕ) → 0 < n → eqb n 0 ≡ false
not_0 n h = ne_eqb n 0 (λ e. omega arith)

-- a divisor above zero
pub quotient_rounds : (f : Format) (x y : Float) → T (finite x) → T (positive y) → Rounds f (div f x y) (plus x * den y) (less x * den y) (plus y * den x)
unfolding div
quotient_rounds f nan y p q = elim p [ ]
quotient_rounds f (inf _) y p q = elim p [ ]
quotient_rounds f (fin false m e) nan p q = elim q [ ]
quotient_rounds f (fin false m e) (inf _) p q = elim q [ ]
quotient_rounds f (fin false m e) (fin true n d) p q = elim q [ ]
quotient_rounds f (fin true m e) nan p q = elim q [ ]
quotient_rounds f (fin true m e) (inf _) p q = elim q [ ]
quotient_rounds f (fin true m e) (fin true n d) p q = elim q [ ]
quotient_rounds f (fin false m e) (fin false n d) p q = rw (not_0 n (ltb→lt 0 n q)) (rounds_up f _ (m * up e * down d) _ _ _ (omega arith) refl)
quotient_rounds f (fin true m e) (fin false n d) p q = rw (not_0 n (ltb→lt 0 n q)) (rounds_down f _ (m * up e * down d) _ _ _ (omega arith) refl)

neg_neg : (x : Float) → neg (neg x) ≡ x
unfolding neg
neg_neg nan = refl
neg_neg (inf true) = refl
neg_neg (inf false) = refl
neg_neg (fin true m e) = refl
neg_neg (fin false m e) = refl

pub rounds_flip : (f : Format) (x : Float) (p n c : ℕ) → Rounds f x p n c → Rounds f (neg x) n p c
rounds_flip f x p n c (inl (h, e)) = inr (h, ap neg e ∙ sym (round_neg f false (p - n) c))
rounds_flip f x p n c (inr (h, e)) = inl (h, ap neg (e ∙ round_neg f false (n - p) c) ∙ neg_neg (round f false (n - p) c))
