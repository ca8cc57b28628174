-- ln of a value in an interval: of x = m·2ᵉ the exponent e lies between those of the ends, and m between theirs where they
-- have the same exponent, else from 0.75 to 1.5.
use mathlib.Core.Bool.{Bool, true, false, ◌&&◌}
use Prim.Native.Nat.{ℕ, zero, suc, ◌+◌, ◌*◌, ◌^◌, ◌≤◌}
use lib.Dec.{T, leb, leb→le, le→leb}
use lib.IntN.{ℤ}
use lib.Ieee.{Float, binary64, up, down, fits, round, of_int, le}
use lib.Ieee.Fits.{and_l, and_r}
use lib.Ieee.Positive.{num, den, positive, le→cross, between}
use lib.Ieee.Scale.{finite}
use Rattle.arithmetic.specs.Checked.{real, ◌e-◌, two⁻}
use Rattle.logarithms.specs.Ln.{Split, m_of, e_of, ln_steps, ln_work, ln_of}
use Rattle.arithmetic.proofs.Forced.{forced}
use Rattle.logarithms.proofs.Literals.{finite_075, finite_15, finite_two⁻60, finite_two60}
use Rattle.logarithms.proofs.ExactSplit.{split_holds, m_low, m_high}
use Rattle.arithmetic.proofs.Within.{within_in}
use Rattle.intervals.proofs.Fractions.{is_true, order_of_test, test_of_order, Le_trans}
use Rattle.intervals.proofs.Interval.{Interval, unknown, ends, Inside, In, anything, inside, interval, tested, result_in, unsquash_in, point, at, hull, hull_left, hull_right, ◌▶◌, computed, lies, lies_in}
use Rattle.intervals.proofs.Sum.{◌⊞◌, ◌⊟◌, ◌⟨⊕⟩◌, ◌⟨⊖⟩◌}
use Rattle.intervals.proofs.Product.{◌⊠◌, ◌⟨⊗⟩◌}
use Rattle.intervals.proofs.Quotient.{◌÷◌, ◌⟨⊘⟩◌, only_if, only_if_lem}
use Rattle.arithmetic.proofs.Order.{lt→le}
use Rattle.arithmetic.proofs.Within.{between_finite}
use Rattle.intervals.proofs.Exponents.{Halved, PowerLe, power_trans, exponents, exponents_rise, m_rises, before, not_twice, no_room}

-- ---- the steps
unfoldable pub ln_steps_over : Interval → ℕ → Interval → Interval
ln_steps_over S zero H = H
ln_steps_over S (suc k) H = point (real 1) ÷ point (real (2 * k + 1)) ⊞ S ⊠ H ▶ ln_steps_over S k

ln_steps_lem : {S : Interval} {s : Float} (k : ℕ) {H : Interval} {h : Float} → In S s → In H h → In (ln_steps_over S k H) (ln_steps s k h)
unfolding ln_steps_over ln_steps
ln_steps_lem zero a b = b
ln_steps_lem (suc k) a b = simp (computed, forced) (ln_steps_lem k a (at (real 1) ⟨⊘⟩ at (real (2 * k + 1)) ⟨⊕⟩ a ⟨⊗⟩ b))

unfoldable pub ln_work_over : Interval → Interval → Interval
ln_work_over M E =
    (M ⊟ point (real 1)) ÷ (M ⊞ point (real 1)) ▶ λ Z.
    Z ⊠ Z ▶ λ S.
    (point (real 2) ⊠ Z) ⊠ ln_steps_over S 10 (point (real 1) ÷ point (real 21)) ⊞ E ⊠ point (6931471805599453 e- 16)

pub ln_work_lem : {M E : Interval} {m e : Float} → In M m → In E e → In (ln_work_over M E) (ln_work m e)
unfolding ln_work_over ln_work
ln_work_lem a b =
    let one = at (real 1) in
    let z = (a ⟨⊖⟩ one) ⟨⊘⟩ (a ⟨⊕⟩ one) in
    simp (computed, forced) ((at (real 2) ⟨⊗⟩ z) ⟨⊗⟩ ln_steps_lem 10 (z ⟨⊗⟩ z) (one ⟨⊘⟩ at (real 21)) ⟨⊕⟩ b ⟨⊗⟩ at (6931471805599453 e- 16))

-- ---- the pieces of an interval, by the exponents of its ends
abbrev pub same_exponent : ℤ → ℤ → Bool
same_exponent e f = leb (up f * down e) (up e * down f)

abbrev pub halved_test : ℤ → ℤ → Bool
halved_test e f = leb (2 * (up e * down f)) (up f * down e)

-- 2ᶠ is at most twice 2ᵉ: no exponent lies between
abbrev pub adjacent : ℤ → ℤ → Bool
adjacent e f = leb (up f * down e) (2 * (up e * down f))

-- the lowest exponent, the highest, and those between
unfoldable pub ln_lowest : Float → Interval
ln_lowest l = ln_work_over (interval (m_of l) (15 e- 1)) (point (of_int binary64 (e_of l)))

unfoldable pub ln_highest : Float → Interval
ln_highest h = ln_work_over (interval (75 e- 2) (m_of h)) (point (of_int binary64 (e_of h)))

unfoldable pub ln_between : Float → Float → Interval
ln_between l h = ln_work_over (interval (75 e- 2) (15 e- 1)) (interval (of_int binary64 (e_of l)) (of_int binary64 (before (e_of h))))

unfoldable pub ln_by : Bool → Bool → Float → Float → Interval
ln_by true near l h = ln_work_over (interval (m_of l) (m_of h)) (interval (of_int binary64 (e_of l)) (of_int binary64 (e_of h)))
ln_by false true l h = hull (ln_lowest l) (ln_highest h)
ln_by false false l h = hull (hull (ln_lowest l) (ln_highest h)) (ln_between l h)

not_leb : (a b : ℕ) → (T (leb a b) → ⊥) → a ≤ b → ⊥
not_leb a b n h = n (le→leb a b h)

-- wherever x is, m lies from 0.75 to 1.5
pub m_anywhere : (x : Float) → In (interval (75 e- 2) (15 e- 1)) (m_of x)
m_anywhere x = tested (75 e- 2) (15 e- 1) (m_of x) finite_075 finite_15 (m_low x) (lt→le (m_of x) (15 e- 1) (m_high x))

abbrev InRange : Float → Type 0
InRange x = T (le (two⁻ 60) x) × T (le x (real (2 ^ 60)))

in_range_positive : (x : Float) → InRange x → T (positive x)
unfolding round of_int
in_range_positive x (l, h) = between (two⁻ 60) x (real (2 ^ 60)) tt tt l h

-- both ends of an interval that lies in the range and is not empty
ends_in_range : (l h x : Float) → T (lies (two⁻ 60) (ends l h) (real (2 ^ 60))) → Inside l h x → InRange l × InRange h
unfolding lies
ends_in_range l h x t a =
    let u = and_l (le (two⁻ 60) l) (le h (real (2 ^ 60))) t in
    let v = and_r (le (two⁻ 60) l) (le h (real (2 ^ 60))) t in
    let low = order_of_test (two⁻ 60) l finite_two⁻60 a.low u in
    let high = order_of_test h (real (2 ^ 60)) a.high finite_two60 v in
    let across = Le_trans l x h a.above a.below in (
      (u, test_of_order l (real (2 ^ 60)) a.low finite_two60 (Le_trans l h (real (2 ^ 60)) across high)),
      (test_of_order (two⁻ 60) h finite_two⁻60 a.high (Le_trans (two⁻ 60) l h low across), v),
    )

range_split : (x : Float) → T (fits binary64 x) → InRange x → Split x (m_of x) (e_of x)
range_split x f (l, h) = split_holds x f (is_true (le (two⁻ 60) x) l) (is_true (le x (real (2 ^ 60))) h)

m_finite : (x : Float) → T (finite (m_of x))
m_finite x = between_finite (75 e- 2) (m_of x) (15 e- 1) finite_075 finite_15 (m_low x) (lt→le (m_of x) (15 e- 1) (m_high x))

module _ (l h x : Float) (fl : T (fits binary64 l)) (fh : T (fits binary64 h)) (fx : T (fits binary64 x)) (rl : InRange l) (rh : InRange h) (rx : InRange x) (a : Inside l h x) where
  low_cross : num l * den x ≤ num x * den l
  low_cross = le→cross l x (in_range_positive l rl) (in_range_positive x rx) (test_of_order l x a.low a.here a.above)

  high_cross : num x * den h ≤ num h * den x
  high_cross = le→cross x h (in_range_positive x rx) (in_range_positive h rh) (test_of_order x h a.here a.high a.below)

  sl : Split l (m_of l) (e_of l)
  sl = range_split l fl rl

  sh : Split h (m_of h) (e_of h)
  sh = range_split h fh rh

  sx : Split x (m_of x) (e_of x)
  sx = range_split x fx rx

  e_in : (lo hi : Float) → T (le lo (of_int binary64 (e_of x))) → T (le (of_int binary64 (e_of x)) hi) → In (interval lo hi) (of_int binary64 (e_of x))
  e_in lo hi low high = unsquash_in (of_int binary64 (e_of x)) (result_in lo hi (of_int binary64 (e_of x)) (λ p q. (low, high)))

  e_above : T (le (of_int binary64 (e_of l)) (of_int binary64 (e_of x)))
  e_above = (exponents_rise sl sx low_cross).1

  e_below : T (le (of_int binary64 (e_of x)) (of_int binary64 (e_of h)))
  e_below = (exponents_rise sx sh high_cross).1

  m_between : (lo hi : Float) → T (finite lo) → T (finite hi) → T (le lo (m_of x)) → T (le (m_of x) hi) → In (interval lo hi) (m_of x)
  m_between lo hi p q low high = tested lo hi (m_of x) p q low high

  m_under : T (le (m_of x) (15 e- 1))
  m_under = lt→le (m_of x) (15 e- 1) (m_high x)

  abbrev value : Float
  value = ln_work (m_of x) (of_int binary64 (e_of x))

  one_exponent : PowerLe (e_of h) (e_of l) → In (ln_work_over (interval (m_of l) (m_of h)) (interval (of_int binary64 (e_of l)) (of_int binary64 (e_of h)))) value
  one_exponent k =
      let down_to : PowerLe (e_of x) (e_of l) = power_trans (e_of x) (e_of h) (e_of l) (exponents_rise sx sh high_cross).0 k in
      let up_to : PowerLe (e_of h) (e_of x) = power_trans (e_of h) (e_of l) (e_of x) k (exponents_rise sl sx low_cross).0 in
      ln_work_lem (m_between (m_of l) (m_of h) (m_finite l) (m_finite h) (m_rises sl sx low_cross down_to) (m_rises sx sh high_cross up_to))
      (e_in (of_int binary64 (e_of l)) (of_int binary64 (e_of h)) e_above e_below)

  lowest : (Halved (e_of l) (e_of x) → ⊥) → In (ln_lowest l) value
  unfolding ln_lowest
  lowest n =
      let (power, e) = exponents (e_of l) (e_of x) n in
      ln_work_lem (m_between (m_of l) (15 e- 1) (m_finite l) finite_15 (m_rises sl sx low_cross power) m_under)
      (e_in (of_int binary64 (e_of l)) (of_int binary64 (e_of l)) e_above e)

  highest : (Halved (e_of x) (e_of h) → ⊥) → In (ln_highest h) value
  unfolding ln_highest
  highest n =
      let (power, e) = exponents (e_of x) (e_of h) n in
      ln_work_lem (m_between (75 e- 2) (m_of h) finite_075 (m_finite h) (m_low x) (m_rises sx sh high_cross power))
      (e_in (of_int binary64 (e_of h)) (of_int binary64 (e_of h)) e e_below)

  -- 2ˣ ≤ 2ʰ / 2, so x ≤ h − 1
  between_both : Halved (e_of x) (e_of h) → In (ln_between l h) value
  unfolding ln_between
  between_both k =
      let (power, e) = exponents (before (e_of h)) (e_of x) (λ g. not_twice (e_of x) (e_of h) k g) in
      ln_work_lem (m_anywhere x) (e_in (of_int binary64 (e_of l)) (of_int binary64 (before (e_of h))) e_above e)

  piece : {X : Type 0} → ((Halved (e_of l) (e_of x) → ⊥) → X) → ((Halved (e_of x) (e_of h) → ⊥) → X) → (Halved (e_of l) (e_of x) → Halved (e_of x) (e_of h) → X) → X
  piece {X} low high both =
      go (halved_test (e_of l) (e_of x)) (halved_test (e_of x) (e_of h))
      (leb→le (2 * (up (e_of l) * down (e_of x))) (up (e_of x) * down (e_of l))) (λ n. not_leb (2 * (up (e_of l) * down (e_of x))) (up (e_of x) * down (e_of l)) n)
      (leb→le (2 * (up (e_of x) * down (e_of h))) (up (e_of h) * down (e_of x))) (λ n. not_leb (2 * (up (e_of x) * down (e_of h))) (up (e_of h) * down (e_of x)) n)
    where
      go : (a b : Bool) → (T a → Halved (e_of l) (e_of x)) → ((T a → ⊥) → Halved (e_of l) (e_of x) → ⊥) → (T b → Halved (e_of x) (e_of h)) → ((T b → ⊥) → Halved (e_of x) (e_of h) → ⊥) → X
      go false b p p' q q' = low (p' (λ z. z))
      go true false p p' q q' = high (q' (λ z. z))
      go true true p p' q q' = both (p tt) (q tt)

  ln_by_lem : (same near : Bool) → (T same → PowerLe (e_of h) (e_of l)) → (T near → up (e_of h) * down (e_of l) ≤ 2 * (up (e_of l) * down (e_of h))) → In (ln_by same near l h) value
  unfolding ln_by
  ln_by_lem true near s n = one_exponent (s tt)
  ln_by_lem false true s n =
      piece (λ k. hull_left (ln_highest h) (lowest k)) (λ k. hull_right (ln_lowest l) (highest k))
      (λ a b. absurd (no_room (e_of l) (e_of x) (e_of h) a b (n tt)))
  ln_by_lem false false s n =
      piece (λ k. hull_left (ln_between l h) (hull_left (ln_highest h) (lowest k))) (λ k. hull_left (ln_between l h) (hull_right (ln_lowest l) (highest k)))
      (λ a b. hull_right (hull (ln_lowest l) (ln_highest h)) (between_both b))

-- ---- ln
unfoldable pub ln_over : Interval → Interval
ln_over unknown = unknown
ln_over (ends l h) =
    only_if (fits binary64 l && fits binary64 h)
    (only_if (lies (two⁻ 60) (ends l h) (real (2 ^ 60))) (ln_by (same_exponent (e_of l) (e_of h)) (adjacent (e_of l) (e_of h)) l h))

pub ⟨ln⟩ : {X : Interval} {x : Float} → T (fits binary64 x) → In X x → In (ln_over X) (ln_of x)
unfolding ln_over ln_of
⟨ln⟩ f anything = anything
⟨ln⟩ {x = x} f (inside {l} {h} a) =
    only_if_lem (fits binary64 l && fits binary64 h) (λ t.
    only_if_lem (lies (two⁻ 60) (ends l h) (real (2 ^ 60))) (λ u.
    let (rl, rh) = ends_in_range l h x u a in
    let rx = lies_in (two⁻ 60) (real (2 ^ 60)) finite_two⁻60 finite_two60 u (inside a) in
    rw (within_in (two⁻ 60) (real (2 ^ 60)) x _ (is_true (le (two⁻ 60) x) rx.0) (is_true (le x (real (2 ^ 60))) rx.1))
    (ln_by_lem l h x (and_l (fits binary64 l) (fits binary64 h) t) (and_r (fits binary64 l) (fits binary64 h) t) f rl rh rx a
    (same_exponent (e_of l) (e_of h)) (adjacent (e_of l) (e_of h))
    (leb→le (up (e_of h) * down (e_of l)) (up (e_of l) * down (e_of h))) (leb→le (up (e_of h) * down (e_of l)) (2 * (up (e_of l) * down (e_of h)))))))
