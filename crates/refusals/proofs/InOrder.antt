-- A call's tests in their order: worked one after the other they give the first that fails; all passed where the call is permitted; and
-- it is denied with none but their refusals.
use mathlib.Core.Path.{◌≡◌, refl, sym, ◌∙◌, ap, subst}
use mathlib.Core.Logic.{◌⊎◌, inl, inr}
use mathlib.Core.Bool.{Bool, true, false, not, cond, ◌&&◌, ◌||◌}
use mathlib.Core.List.{List, [], ◌∷◌, ◌++◌}
use Prim.Native.Nat.{ℕ}
use borrow.Author.Tests.{eqb-true}
use lib.Dec.{T, eqb}
use lib.Ieee.Fits.{and_l, and_r}
use Rattle.std.specs.Prelude.{Ok, Err}
use Rattle.refusals.specs.declared.Refusal.{Refusal}
use Rattle.refusals.specs.Answer.{Permit}
use Rattle.refusals.specs.Code.{code_of, OneOf}
use Rattle.refusals.specs.Order.{first_of, tested_of, granted}
use Rattle.refusals.proofs.Apart.{ok≢err, other_code}
use Rattle.refusals.proofs.Needed.{test_passed, rest_granted, also, first_of_both}

-- ---- one after the other

abbrev pub in_turn : Permit → List (Bool × Refusal) → Permit
in_turn before [] = before
in_turn before (test ∷ tests) = in_turn (tested_of before test.0 test.1) tests

denied_stays : (r : Refusal) (tests : List (Bool × Refusal)) → in_turn (Err r) tests ≡ Err r
denied_stays r [] = refl
denied_stays r (test ∷ tests) = denied_stays r tests

granted_first : (tests : List (Bool × Refusal)) → in_turn (Ok tt) tests ≡ first_of tests
granted_first [] = refl
granted_first (test ∷ tests) = go test.0 (granted_first tests)
  where
    go : (b : Bool) → in_turn (Ok tt) tests ≡ first_of tests → in_turn (tested_of (Ok tt) b test.1) tests ≡ cond b (first_of tests) (Err test.1)
    go true rest = rest
    go false rest = denied_stays test.1 tests

in_turn_lem : (before : Permit) (tests : List (Bool × Refusal)) → in_turn before tests ≡ also before (first_of tests)
in_turn_lem (Ok _) tests = granted_first tests
in_turn_lem (Err r) tests = denied_stays r tests

-- tests worked after those that a permit has passed already
pub tests_after : (passed tests : List (Bool × Refusal)) (before : Permit) → before ≡ first_of passed → in_turn before tests ≡ first_of (passed ++ tests)
tests_after passed tests before e = subst (λ (p : Permit). in_turn p tests ≡ first_of (passed ++ tests)) (sym e) (in_turn_lem (first_of passed) tests ∙ sym (first_of_both passed tests))

-- ---- all passed

abbrev pub AllPassed : List (Bool × Refusal) → Type 0
AllPassed [] = Unit
AllPassed (test ∷ tests) = (test.0 ≡ true) × AllPassed tests

pub all_passed : (tests : List (Bool × Refusal)) → first_of tests ≡ Ok tt → AllPassed tests
all_passed [] e = tt
all_passed (test ∷ tests) e =
    (test_passed test.0 (first_of tests) test.1 e, all_passed tests (rest_granted test.0 (first_of tests) test.1 e))

pub all_granted : (tests : List (Bool × Refusal)) → AllPassed tests → first_of tests ≡ Ok tt
all_granted [] passed = refl
all_granted (test ∷ tests) (first, rest) = rw first (all_granted tests rest)

-- ---- none but their refusals

-- no test refuses with e
abbrev pub none_is : Refusal → List (Bool × Refusal) → Bool
none_is e [] = true
none_is e (test ∷ tests) = not (eqb (code_of test.1) (code_of e)) && none_is e tests

pub never_denied : (e : Refusal) (tests : List (Bool × Refusal)) → T (none_is e tests) → first_of tests ≡ Err e → ⊥
never_denied e [] ok d = ok≢err d
never_denied e (test ∷ tests) ok d =
    let other = not (eqb (code_of test.1) (code_of e)) in
    go test.0 (and_l other (none_is e tests) ok) (never_denied e tests (and_r other (none_is e tests) ok)) d
  where
    go : (b : Bool) → T (not (eqb (code_of test.1) (code_of e))) → (first_of tests ≡ Err e → ⊥) → cond b (first_of tests) (Err test.1) ≡ Err e → ⊥
    go true other later d = later d
    go false other later d = let same : test.1 ≡ e = cc in other_code other same

-- ---- and with one of their codes

abbrev pub is_one_of : ℕ → List ℕ → Bool
is_one_of n [] = false
is_one_of n (x ∷ xs) = eqb n x || is_one_of n xs

abbrev pub all_in : List ℕ → List ℕ → Bool
all_in [] ys = true
all_in (x ∷ xs) ys = is_one_of x ys && all_in xs ys

one_of : (n : ℕ) (xs : List ℕ) → T (is_one_of n xs) → OneOf n xs
one_of n [] t = elim t [ ]
one_of n (x ∷ xs) t = go (eqb n x) refl (one_of n xs) t
  where
    go : (b : Bool) → eqb n x ≡ b → (T (is_one_of n xs) → OneOf n xs) → T (b || is_one_of n xs) → (n ≡ x) ⊎ OneOf n xs
    go true e rest t = inl (eqb-true n x e)
    go false e rest t = inr (rest t)

-- a list's codes that all stand in another
pub one_of_more : (xs ys : List ℕ) → T (all_in xs ys) → (n : ℕ) → OneOf n xs → OneOf n ys
one_of_more [] ys all n h = elim h [ ]
one_of_more (x ∷ xs) ys all n (inl e) = subst (λ (m : ℕ). OneOf m ys) (sym e) (one_of x ys (and_l (is_one_of x ys) (all_in xs ys) all))
one_of_more (x ∷ xs) ys all n (inr later) = one_of_more xs ys (and_r (is_one_of x ys) (all_in xs ys) all) n later

-- each test's refusal has one of the codes
abbrev pub codes_in : List ℕ → List (Bool × Refusal) → Bool
codes_in codes [] = true
codes_in codes (test ∷ tests) = is_one_of (code_of test.1) codes && codes_in codes tests

pub denied_code : (codes : List ℕ) (tests : List (Bool × Refusal)) → T (codes_in codes tests) → (r : Refusal) → first_of tests ≡ Err r → OneOf (code_of r) codes
denied_code codes [] all r d = absurd (ok≢err d)
denied_code codes (test ∷ tests) all r d =
    let here = is_one_of (code_of test.1) codes in
    go test.0 (one_of (code_of test.1) codes (and_l here (codes_in codes tests) all)) (denied_code codes tests (and_r here (codes_in codes tests) all) r) d
  where
    go : (b : Bool) → OneOf (code_of test.1) codes → (first_of tests ≡ Err r → OneOf (code_of r) codes) → cond b (first_of tests) (Err test.1) ≡ Err r → OneOf (code_of r) codes
    go true own later d = later d
    go false own later d = let same : test.1 ≡ r = cc in subst (λ (x : Refusal). OneOf (code_of x) codes) same own

-- a permit is granted, or denies with a refusal
pub by_permit : {X : Type 0} (p : Permit) → (p ≡ Ok tt → X) → ((r : Refusal) → p ≡ Err r → X) → X
by_permit (Ok _) f g = f refl
by_permit (Err r) f g = g r refl

-- ---- a permit that the code works test by test

-- one test more than those that were passed before
pub one_test :
    (passed : List (Bool × Refusal)) (t : Bool) (e : Refusal) {r before : Permit} {b : Bool} →
    r ≡ tested_of before b e → before ≡ first_of passed → b ≡ t → r ≡ first_of (passed ++ ((t, e) ∷ []))
one_test passed t e {r} {before} {b} worked first test =
    worked ∙ ap (λ (x : Bool). tested_of before x e) test ∙ tests_after passed ((t, e) ∷ []) before first

-- ---- whether tests grant

-- two parts of a list of tests grant exactly if each does
pub granted_both : (p q : Permit) → granted (also p q) ≡ (granted p && granted q)
granted_both (Ok _) q = refl
granted_both (Err r) q = refl

-- one test, and two
pub granted_one : (b : Bool) (r : Refusal) → granted (first_of ((b, r) ∷ [])) ≡ b
granted_one true r = refl
granted_one false r = refl

pub granted_two : (a b : Bool) (r s : Refusal) → granted (first_of ((a, r) ∷ (b, s) ∷ [])) ≡ (a && b)
granted_two true b r s = granted_one b s
granted_two false b r s = refl

pub is_granted : (p : Permit) → granted p ≡ true → p ≡ Ok tt
is_granted (Ok _) e = refl
is_granted (Err r) e = cc
