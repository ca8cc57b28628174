-- exp, ln and root refuse with 12 exactly outside their stated ranges: each range is worked as one interval, and it is known.
use mathlib.Core.Path.{◌≡◌, refl}
use mathlib.Core.Logic.{◌↔◌}
use mathlib.Core.Bool.{Bool, true, false, cond, true≢false}
use Prim.Native.Nat.{ℕ, zero, suc, ◌+◌, ◌-◌, ◌^◌, ◌≤◌, ◌<◌}
use native.Mathlib.Omega.{arith}
use lib.Dec.{T, ltb, lit<}
use lib.IntN.{ℤ, pos, negsuc, ◌-ℤ◌}
use lib.Ieee.{Float, nan, fin, binary64, of_int, round, le}
use lib.Ieee.Fits.{and_l, and_r}
use lib.Ieee.Order.{round_mono}
use lib.Ieee.Scale.{finite}
use Rattle.std.specs.Prelude.{Err}
use Rattle.refusals.specs.declared.Refusal.TheVariants.{InputNotFinite, WorkNotFinite}
use Rattle.refusals.specs.Answer.{Answer}
use Rattle.arithmetic.specs.Checked.{real, ◌e-◌, two⁻, minus, between, within}
use Rattle.exponentials.specs.Exp.{exp_of}
use Rattle.logarithms.specs.Ln.{digits, field, m_field, m_of, e_of, ln_work, ln_of}
use Rattle.roots.specs.Root.{root_of}
use Rattle.arithmetic.specs.Answered.{answer_from}
use Rattle.elementary.specs.Calls.{called_of, exponential_of, logarithm_of, square_root_of}
use Rattle.logarithms.proofs.Fields.{m_field_small}
use Rattle.exponentials.proofs.Literals.{finite_700, finite_minus_700}
use Rattle.roots.proofs.Literals.{finite_1, finite_1e8}
use Rattle.refusals.proofs.Tests.{by}
use Rattle.refusals.proofs.Apart.{ok≢err}
use Rattle.intervals.proofs.Fractions.{holds}
use Rattle.intervals.proofs.Rounding.{round_anti, signs_apart}
use Rattle.intervals.proofs.Interval.{interval, tested, known, in_known}
use Rattle.intervals.proofs.Functions.{exp_over, root_over, ⟨exp⟩, ⟨root⟩}
use Rattle.intervals.proofs.Opened.{opened}
use Rattle.intervals.proofs.Logarithm.{ln_work_over, ln_work_lem, m_anywhere}

-- ---- exp from −700 to 700, root from 1 to 10⁸
exp_known : T (known (exp_over (interval (minus (real 700)) (real 700))))
unfolding opened
exp_known = tt

root_known : T (known (root_over (interval (real 1) (real (10 ^ 8)))))
unfolding opened
root_known = tt

-- ---- ln wherever m and e are
ln_known : T (known (ln_work_over (interval (75 e- 2) (15 e- 1)) (interval (of_int binary64 (negsuc 1023)) (of_int binary64 (pos 2048)))))
unfolding opened
ln_known = tt

abbrev Near : ℤ → Type 0
Near e = T (le (of_int binary64 (negsuc 1023)) (of_int binary64 e)) × T (le (of_int binary64 e) (of_int binary64 (pos 2048)))

near_above : (n : ℕ) → n ≤ 2048 → Near (pos n)
unfolding of_int
near_above n h = (signs_apart binary64 1024 1 n 1, round_mono binary64 n 1 2048 1 (lit< tt) (lit< tt) (omega arith))

near_below : (n : ℕ) → n ≤ 1023 → Near (negsuc n)
unfolding of_int
near_below n h = (round_anti binary64 (suc n) 1 1024 1 (lit< tt) (lit< tt) (omega arith), signs_apart binary64 (suc n) 1 2048 1)

difference_near : (f g : ℕ) → f < 2048 → g ≤ 1023 → Near (pos f -ℤ pos g)
difference_near f zero h k = near_above (f + 0) (omega arith)
difference_near f (suc g) h k = go (ltb f (suc g))
  where
    go : (b : Bool) → Near (cond b (negsuc (suc g - suc f)) (pos (f - suc g)))
    go true = near_below (suc g - suc f) (omega arith)
    go false = near_above (f - suc g) (omega arith)

e_near : (x : Float) → Near (e_of x)
unfolding e_of
e_near x = difference_near (field x) (m_field (digits x)) (omega arith) (m_field_small (digits x))

finite_low : T (finite (of_int binary64 (negsuc 1023)))
unfolding of_int round
finite_low = tt

finite_high : T (finite (of_int binary64 (pos 2048)))
unfolding of_int round
finite_high = tt

work_finite : (x : Float) → T (finite (ln_work (m_of x) (of_int binary64 (e_of x))))
work_finite x =
    in_known ln_known
    (ln_work_lem (m_anywhere x)
    (tested (of_int binary64 (negsuc 1023)) (of_int binary64 (pos 2048)) (of_int binary64 (e_of x)) finite_low finite_high (e_near x).0 (e_near x).1))

-- ---- in range a number, outside `nan`
module _ (x : Float) where
  pub exp_in_range : between (minus (real 700)) x (real 700) ≡ true → T (finite (exp_of x))
  exp_in_range p =
      let t = holds (between (minus (real 700)) x (real 700)) p in
      in_known exp_known
      (⟨exp⟩ (tested (minus (real 700)) (real 700) x finite_minus_700 finite_700 (and_l (le (minus (real 700)) x) (le x (real 700)) t) (and_r (le (minus (real 700)) x) (le x (real 700)) t)))

  pub exp_outside : between (minus (real 700)) x (real 700) ≡ false → exp_of x ≡ nan
  unfolding exp_of within
  exp_outside p = rw p

  pub ln_in_range : between (two⁻ 60) x (real (2 ^ 60)) ≡ true → T (finite (ln_of x))
  unfolding ln_of within
  ln_in_range p = rw p (work_finite x)

  pub ln_outside : between (two⁻ 60) x (real (2 ^ 60)) ≡ false → ln_of x ≡ nan
  unfolding ln_of within
  ln_outside p = rw p

  pub root_in_range : between (real 1) x (real (10 ^ 8)) ≡ true → T (finite (root_of x))
  root_in_range p =
      let t = holds (between (real 1) x (real (10 ^ 8))) p in
      in_known root_known
      (⟨root⟩ (tested (real 1) (real (10 ^ 8)) x finite_1 finite_1e8 (and_l (le (real 1) x) (le x (real (10 ^ 8))) t) (and_r (le (real 1) x) (le x (real (10 ^ 8))) t)))

  pub root_outside : between (real 1) x (real (10 ^ 8)) ≡ false → root_of x ≡ nan
  unfolding root_of within
  root_outside p = rw p

-- ---- the calls
-- a call at x with a value that is a number in the range and `nan` outside it
called_12 : (x v : Float) (in_range : Bool) → (in_range ≡ true → T (finite v)) → (in_range ≡ false → v ≡ nan) → (called_of x v ≡ Err WorkNotFinite) ↔ ((finite x ≡ true) × (in_range ≡ false))
called_12 x v in_range number none = (
  (λ r. by (finite x)
      (λ f. by in_range
      (λ p. absurd (not_refused v (number p) (rw f at r)))
      (λ p. (f, p)))
      (λ f. absurd (other (rw f at r)))),
  (λ (f, p). rw (f, none p) refl),
)
  where
    other : ◌≡◌ {A = Answer} (Err InputNotFinite) (Err WorkNotFinite) → ⊥
    other e = true≢false (cc)

    not_refused : (v : Float) → T (finite v) → answer_from v ≡ Err WorkNotFinite → ⊥
    not_refused nan t r = elim t [ ]
    not_refused (lib.Ieee.inf _) t r = elim t [ ]
    not_refused (fin s m e) t r = ok≢err r

module _ (x : Float) where
  pub exponential_12 : (exponential_of x ≡ Err WorkNotFinite) ↔ ((finite x ≡ true) × (between (minus (real 700)) x (real 700) ≡ false))
  exponential_12 = called_12 x (exp_of x) (between (minus (real 700)) x (real 700)) (exp_in_range x) (exp_outside x)

  pub logarithm_12 : (logarithm_of x ≡ Err WorkNotFinite) ↔ ((finite x ≡ true) × (between (two⁻ 60) x (real (2 ^ 60)) ≡ false))
  logarithm_12 = called_12 x (ln_of x) (between (two⁻ 60) x (real (2 ^ 60))) (ln_in_range x) (ln_outside x)

  pub square_root_12 : (square_root_of x ≡ Err WorkNotFinite) ↔ ((finite x ≡ true) × (between (real 1) x (real (10 ^ 8)) ≡ false))
  square_root_12 = called_12 x (root_of x) (between (real 1) x (real (10 ^ 8))) (root_in_range x) (root_outside x)
