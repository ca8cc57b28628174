-- A term's A, q, r, f, g at δ and τ in intervals, and the six sums over a table, lie in the intervals worked by the same formulas.
use mathlib.Core.Path.{◌≡◌, refl}
use mathlib.Core.Bool.{Bool, true, false, ◌&&◌}
use mathlib.Core.List.{List, [], ◌∷◌, map}
use Prim.Native.Nat.{ℕ, zero, suc, ◌<◌, ◌≤◌}
use native.Mathlib.Nat.{not-suc-le-zero, le_of_suc-le-suc, le_of_lt, le_refl}
use lib.ListN.{get_or, length}
use lib.Dec.{T}
use lib.IntN.{pos}
use lib.Ieee.{Float, nan, binary64, fits, lt, of_int, round}
use lib.Ieee.Scale.{finite}
use lib.Ieee.Fits.{of_int-fits}
use Rattle.arithmetic.specs.Checked.{real, squash, ◌⊗◌, ◌⊘◌}
use Rattle.logarithms.specs.Ln.{ln_of}
use Rattle.elementary.specs.Power.{◌↑◌}
use Rattle.arithmetic.proofs.Forced.{forced}
use Rattle.arithmetic.proofs.Operations.{⊘_squashed}
use Rattle.fluids.specs.declared.Term.{Term}
use Rattle.fluids.specs.declared.Term.TheVariants.{Plain, Damped, Bell}
use Rattle.fluids.specs.declared.Fluid.{Fluid}
use Rattle.fluids.specs.Entry.{Entry, no_term}
use Rattle.fluids.specs.Entries.{entry_of}
use Rattle.kept.specs.declared.Kept.{Kept}
use Rattle.kept.specs.Kept.{exponent_of, power_at, bell_at, kept_of}
use Rattle.sums.specs.declared.rows.Row.{Row}
use Rattle.sums.specs.declared.Sums.{Sums}
use Rattle.sums.specs.Rows.{x_at, row_at}
use Rattle.sums.specs.Sums.{row_first, sums_first, add_row, row_of, sums_to, sums_at}
use Rattle.intervals.proofs.Interval.{Interval, unknown, ends, In, anything, inside, point, at, squash_in, hull, hull_left, hull_right, from_on, from_on_in, up_to, up_to_in, either_side, ◌▶◌, computed}
use Rattle.intervals.proofs.Representable.{sum_fits}
use Rattle.intervals.proofs.Sum.{◌⊞◌, ◌⊟◌, negated, ◌⟨⊕⟩◌, ◌⟨⊖⟩◌, ⟨minus⟩}
use Rattle.intervals.proofs.Product.{◌⊠◌, ◌⟨⊗⟩◌}
use Rattle.intervals.proofs.Functions.{exp_over, ⟨exp⟩, ◌⇈◌, ⟨↑⟩}

-- ---- n·u·u, whose sign is n's: by the sign of u where both can be
abbrev straddles : Interval → Bool
straddles unknown = false
straddles (ends l h) = lt l (real 0) && lt (real 0) h

unfoldable pub square_by : Bool → Interval → Interval → Interval
square_by true N U = hull (N ⊠ up_to (real 0) U ⊠ up_to (real 0) U) (N ⊠ from_on (real 0) U ⊠ from_on (real 0) U)
square_by false N U = N ⊠ U ⊠ U

unfoldable pub square : Interval → Interval → Interval
square N U = square_by (straddles U) N U

finite_0 : T (finite (real 0))
unfolding of_int round
finite_0 = tt

square_by_lem : {N U : Interval} {n u : Float} (b : Bool) → In N n → In U u → In (square_by b N U) (n ⊗ u ⊗ u)
unfolding square_by up_to
square_by_lem true a anything = hull_left _ (a ⟨⊗⟩ anything ⟨⊗⟩ anything)
square_by_lem {u = u} true a (inside b) =
    either_side u (real 0) b.here finite_0
    (λ low. let v = up_to_in (real 0) u finite_0 low (inside b) in hull_left _ (a ⟨⊗⟩ v ⟨⊗⟩ v))
    (λ high. let v = from_on_in (real 0) u finite_0 high (inside b) in hull_right _ (a ⟨⊗⟩ v ⟨⊗⟩ v))
square_by_lem false a b = a ⟨⊗⟩ b ⟨⊗⟩ b

⟨square⟩ : {N U : Interval} {n u : Float} → In N n → In U u → In (square N U) (n ⊗ u ⊗ u)
unfolding square
⟨square⟩ {U = U} a b = square_by_lem (straddles U) a b

-- ---- the powers, the bells' parts and X
unfoldable pub power_at_over : Interval → Term → Interval
power_at_over Y term = exp_over (point (exponent_of term) ⊠ Y)

unfoldable pub bell_at_over : Interval → Term → Interval
bell_at_over Θ (Plain N t d) = point (real 0)
bell_at_over Θ (Damped N t d l) = point (real 0)
bell_at_over Θ (Bell N t d η β γ ε) = Θ ⊟ point γ ▶ square (point β)

unfoldable pub x_at_over : Interval → Interval → Term → Interval
x_at_over Δ B (Plain N t d) = point (real 1)
x_at_over Δ B (Damped N t d l) = exp_over (negated (Δ ⇈ l))
x_at_over Δ B (Bell N t d η β γ ε) = Δ ⊟ point ε ▶ λ U. exp_over (square (negated (point η)) U ⊟ B)

power_in : {Y : Interval} {y : Float} (term : Term) → In Y y → In (power_at_over Y term) (power_at y term)
unfolding power_at_over power_at
power_in term a = ⟨exp⟩ (at (exponent_of term) ⟨⊗⟩ a)

bell_in : {Θ : Interval} {τ : Float} (term : Term) → In Θ τ → In (bell_at_over Θ term) (bell_at τ term)
unfolding bell_at_over bell_at
bell_in (Plain N t d) a = at (real 0)
bell_in (Damped N t d l) a = at (real 0)
bell_in (Bell N t d η β γ ε) a = simp computed (⟨square⟩ (at β) (a ⟨⊖⟩ at γ))

x_in : {Δ B : Interval} {δ b : Float} (term : Term) → In Δ δ → In B b → In (x_at_over Δ B term) (x_at δ b term)
unfolding x_at_over x_at
x_in (Plain N t d) a p = at (real 1)
x_in (Damped N t d l) a p = ⟨exp⟩ (⟨minus⟩ (⟨↑⟩ l a))
x_in (Bell N t d η β γ ε) a p = simp computed (⟨exp⟩ (⟨square⟩ (⟨minus⟩ (at η)) (a ⟨⊖⟩ at ε) ⟨⊖⟩ p))

-- ---- a row
pub data RowOver : Type 0 where
  five : Interval → Interval → Interval → Interval → Interval → RowOver

abbrev pub InRow : RowOver → Row → Type 0
InRow (five A q r f g) w = In A w.a × In q w.q × In r w.r × In f w.f × In g w.g

unfoldable pub row_at_over : Interval → Interval → Interval → Interval → Term → RowOver
row_at_over Δ Θ W X (Plain N t d) =
    five (((point N ⊠ Δ ⇈ d) ⊠ W) ⊠ X) (point (real d)) (point t) (point (real d) ⊠ point (real d) ⊟ point (real d)) (point t ⊠ point t ⊟ point t)
row_at_over Δ Θ W X (Damped N t d l) =
    Δ ⇈ l ▶ λ D.
    point (real d) ⊟ point (real l) ⊠ D ▶ λ q.
    five (((point N ⊠ Δ ⇈ d) ⊠ W) ⊠ X) q (point t) ((q ⊠ q ⊟ q) ⊟ (point (real l) ⊠ point (real l)) ⊠ D) (point t ⊠ point t ⊟ point t)
row_at_over Δ Θ W X (Bell N t d η β γ ε) =
    point (real d) ⊟ point (real 2) ⊠ point η ⊠ Δ ⊠ (Δ ⊟ point ε) ▶ λ q.
    point t ⊟ point (real 2) ⊠ point β ⊠ Θ ⊠ (Θ ⊟ point γ) ▶ λ r.
    five (((point N ⊠ Δ ⇈ d) ⊠ W) ⊠ X) q r
    ((q ⊠ q ⊟ point (real d)) ⊟ point (real 2) ⊠ point η ⊠ Δ ⊠ Δ)
    ((r ⊠ r ⊟ point t) ⊟ point (real 2) ⊠ point β ⊠ Θ ⊠ Θ)

module _ {Δ Θ W X : Interval} {δ τ w x : Float} (inΔ : In Δ δ) (inΘ : In Θ τ) (in_W : In W w) (in_X : In X x) where
  a_in : (N : Float) (d : ℕ) → In (((point N ⊠ Δ ⇈ d) ⊠ W) ⊠ X) (((N ⊗ δ ↑ d) ⊗ w) ⊗ x)
  a_in N d = ((at N ⟨⊗⟩ ⟨↑⟩ d inΔ) ⟨⊗⟩ in_W) ⟨⊗⟩ in_X

  row_in : (term : Term) → InRow (row_at_over Δ Θ W X term) (row_at δ τ w x term)
  unfolding row_at_over row_at
  row_in (Plain N t d) =
      let q = at (real d) in
      simp forced (a_in N d, q, at t, q ⟨⊗⟩ q ⟨⊖⟩ q, at t ⟨⊗⟩ at t ⟨⊖⟩ at t)
  row_in (Damped N t d l) =
      let D = ⟨↑⟩ l inΔ in
      let q = at (real d) ⟨⊖⟩ at (real l) ⟨⊗⟩ D in
      simp (forced, computed) (a_in N d, q, at t, (q ⟨⊗⟩ q ⟨⊖⟩ q) ⟨⊖⟩ (at (real l) ⟨⊗⟩ at (real l)) ⟨⊗⟩ D, at t ⟨⊗⟩ at t ⟨⊖⟩ at t)
  row_in (Bell N t d η β γ ε) =
      let q = at (real d) ⟨⊖⟩ at (real 2) ⟨⊗⟩ at η ⟨⊗⟩ inΔ ⟨⊗⟩ (inΔ ⟨⊖⟩ at ε) in
      let r = at t ⟨⊖⟩ at (real 2) ⟨⊗⟩ at β ⟨⊗⟩ inΘ ⟨⊗⟩ (inΘ ⟨⊖⟩ at γ) in
      simp (forced, computed) (
        a_in N d,
        q,
        r,
        (q ⟨⊗⟩ q ⟨⊖⟩ at (real d)) ⟨⊖⟩ at (real 2) ⟨⊗⟩ at η ⟨⊗⟩ inΔ ⟨⊗⟩ inΔ,
        (r ⟨⊗⟩ r ⟨⊖⟩ at t) ⟨⊖⟩ at (real 2) ⟨⊗⟩ at β ⟨⊗⟩ inΘ ⟨⊗⟩ inΘ,
      )

-- ---- the six sums
pub data SumsOver : Type 0 where
  six : Interval → Interval → Interval → Interval → Interval → Interval → SumsOver

abbrev pub InSums : SumsOver → Sums → Type 0
InSums (six S0 S1 S2 T1 T2 ST) s = In S0 s.s0 × In S1 s.s1 × In S2 s.s2 × In T1 s.t1 × In T2 s.t2 × In ST s.st

abbrev no_sums_over : SumsOver
no_sums_over = six (point (real 0)) (point (real 0)) (point (real 0)) (point (real 0)) (point (real 0)) (point (real 0))

-- a row, or six sums, computed first
unfoldable pub row_computed : {B : Type 0} → RowOver → (RowOver → B) → B
row_computed (five a q r f g) k = a ▶ λ a. q ▶ λ q. r ▶ λ r. f ▶ λ f. g ▶ λ g. k (five a q r f g)

unfoldable pub sums_computed : {B : Type 0} → SumsOver → (SumsOver → B) → B
sums_computed (six s0 s1 s2 t1 t2 st) k = s0 ▶ λ s0. s1 ▶ λ s1. s2 ▶ λ s2. t1 ▶ λ t1. t2 ▶ λ t2. st ▶ λ st. k (six s0 s1 s2 t1 t2 st)

row_computed_lem : {B : Type 0} (w : RowOver) (k : RowOver → B) → row_computed w k ≡ k w
unfolding row_computed
row_computed_lem (five a q r f g) k = simp computed

sums_computed_lem : {B : Type 0} (s : SumsOver) (k : SumsOver → B) → sums_computed s k ≡ k s
unfolding sums_computed
sums_computed_lem (six s0 s1 s2 t1 t2 st) k = simp computed

row_forced : {B : Type 0} (w : Row) (k : Row → B) → row_first w k ≡ k w
unfolding row_first
row_forced w k = simp forced

sums_forced : {B : Type 0} (s : Sums) (k : Sums → B) → sums_first s k ≡ k s
unfolding sums_first
sums_forced s k = simp forced

unfoldable pub add_row_over : SumsOver → RowOver → SumsOver
add_row_over (six S0 S1 S2 T1 T2 ST) (five a q r f g) = six (S0 ⊞ a) (S1 ⊞ a ⊠ q) (S2 ⊞ a ⊠ f) (T1 ⊞ a ⊠ r) (T2 ⊞ a ⊠ g) (ST ⊞ a ⊠ q ⊠ r)

add_row_in : (S : SumsOver) (W : RowOver) (s : Sums) (w : Row) → InSums S s → InRow W w → InSums (add_row_over S W) (add_row s w)
unfolding add_row_over
add_row_in (six _ _ _ _ _ _) (five _ _ _ _ _) s w (s0, s1, s2, t1, t2, st) (a, q, r, f, g) =
    (s0 ⟨⊕⟩ a, s1 ⟨⊕⟩ a ⟨⊗⟩ q, s2 ⟨⊕⟩ a ⟨⊗⟩ f, t1 ⟨⊕⟩ a ⟨⊗⟩ r, t2 ⟨⊕⟩ a ⟨⊗⟩ g, st ⟨⊕⟩ a ⟨⊗⟩ q ⟨⊗⟩ r)

-- one term, its power and its bell's part from ln τ and τ
unfoldable pub term_over : Interval → Interval → Interval → Term → RowOver
term_over Δ Θ Y term = row_at_over Δ Θ (power_at_over Y term) (x_at_over Δ (bell_at_over Θ term) term) term

unfoldable pub sums_to_over : Interval → Interval → Interval → List Term → ℕ → SumsOver
sums_to_over Δ Θ Y rows zero = no_sums_over
sums_to_over Δ Θ Y rows (suc i) =
    sums_computed (sums_to_over Δ Θ Y rows i) λ S. row_computed (term_over Δ Θ Y (get_or rows i no_term)) λ W. add_row_over S W

-- what a table's list has at a place inside it
squashed_at : {A : Type 0} (f : A → Float) (xs : List A) (i : ℕ) (z : A) → i < length xs → get_or (map squash (map f xs)) i nan ≡ squash (f (get_or xs i z))
squashed_at f [] i z h = absurd (not-suc-le-zero h)
squashed_at f (x ∷ xs) zero z h = refl
squashed_at f (x ∷ xs) (suc i) z h = squashed_at f xs i z (le_of_suc-le-suc h)

module _ {Δ Θ Y : Interval} {δ τ y : Float} (rows : List Term) (inΔ : In Δ δ) (inΘ : In Θ τ) (in_Y : In Y y) where
  this_in : (i : ℕ) → i < length rows → (powers bells : List Float) → powers ≡ map squash (map (power_at y) rows) → bells ≡ map squash (map (bell_at τ) rows)
      → InRow (term_over Δ Θ Y (get_or rows i no_term)) (row_of δ τ rows powers bells i)
  unfolding term_over row_of
  this_in i h powers bells p q =
      let term = get_or rows i no_term in
      let in_W : In (power_at_over Y term) (get_or powers i nan) =
      rw (p, squashed_at (power_at y) rows i no_term h) (squash_in (power_in term in_Y)) in
      let in_b : In (bell_at_over Θ term) (get_or bells i nan) =
      rw (q, squashed_at (bell_at τ) rows i no_term h) (squash_in (bell_in term inΘ)) in
      row_in inΔ inΘ in_W (x_in term inΔ in_b) term

  sums_to_in : (i : ℕ) → i ≤ length rows → (powers bells : List Float) → powers ≡ map squash (map (power_at y) rows) → bells ≡ map squash (map (bell_at τ) rows)
      → InSums (sums_to_over Δ Θ Y rows i) (sums_to δ τ rows powers bells i)
  unfolding sums_to_over sums_to
  sums_to_in zero h powers bells p q = let z = at (real 0) in (z, z, z, z, z, z)
  sums_to_in (suc i) h powers bells p q =
      simp (sums_computed_lem, row_computed_lem, sums_forced, row_forced)
      (add_row_in (sums_to_over Δ Θ Y rows i) (term_over Δ Θ Y (get_or rows i no_term)) (sums_to δ τ rows powers bells i) (row_of δ τ rows powers bells i)
      (sums_to_in i (le_of_lt h) powers bells p q) (this_in i h powers bells p q))

-- ---- S1 alone, for the pressure
abbrev times_Q : RowOver → Interval
times_Q (five a q r f g) = a ⊠ q

times_q_in : (W : RowOver) (w : Row) → InRow W w → In (times_Q W) (w.a ⊗ w.q)
times_q_in (five _ _ _ _ _) w (a, q, r, f, g) = a ⟨⊗⟩ q

unfoldable pub s1_to_over : Interval → Interval → Interval → List Term → ℕ → Interval
s1_to_over Δ Θ Y rows zero = point (real 0)
s1_to_over Δ Θ Y rows (suc i) = s1_to_over Δ Θ Y rows i ▶ λ S. S ⊞ times_Q (term_over Δ Θ Y (get_or rows i no_term))

s1_to_in : {Δ Θ Y : Interval} {δ τ y : Float} (rows : List Term) → In Δ δ → In Θ τ → In Y y → (i : ℕ) → i ≤ length rows → (powers bells : List Float)
    → powers ≡ map squash (map (power_at y) rows) → bells ≡ map squash (map (bell_at τ) rows) → In (s1_to_over Δ Θ Y rows i) (sums_to δ τ rows powers bells i).s1
unfolding s1_to_over sums_to
s1_to_in rows d u y zero h powers bells p q = at (real 0)
s1_to_in rows d u y (suc i) h powers bells p q =
    simp (computed, sums_forced, row_forced)
    (s1_to_in rows d u y i (le_of_lt h) powers bells p q ⟨⊕⟩ times_q_in (term_over _ _ _ (get_or rows i no_term)) (row_of _ _ rows powers bells i) (this_in rows d u y i h powers bells p q))

-- ---- the sums of a state
unfoldable pub sums_over : Entry → Interval → Interval → Interval → SumsOver
sums_over E Δ Θ Y = sums_to_over Δ Θ Y E.rows (length E.rows)

pub sums_in : {Δ Θ Y : Interval} {δ : Float} (F : Fluid) (t : Float) → In Δ δ → In Θ ((entry_of F).Tc ⊘ t) → In Y (ln_of ((entry_of F).Tc ⊘ t)) → InSums (sums_over (entry_of F) Δ Θ Y) (sums_at (kept_of F t) δ)
unfolding sums_over sums_at kept_of
sums_in F t d u y = simp (forced, ⊘_squashed) (sums_to_in (entry_of F).rows (squash_in d) u y (length (entry_of F).rows) (le_refl _) _ _ refl refl)

unfoldable pub s1_over : Entry → Interval → Interval → Interval → Interval
s1_over E Δ Θ Y = s1_to_over Δ Θ Y E.rows (length E.rows)

pub s1_in : {Δ Θ Y : Interval} {δ : Float} (F : Fluid) (t : Float) → In Δ δ → In Θ ((entry_of F).Tc ⊘ t) → In Y (ln_of ((entry_of F).Tc ⊘ t)) → In (s1_over (entry_of F) Δ Θ Y) (sums_at (kept_of F t) δ).s1
unfolding s1_over sums_at kept_of
s1_in F t d u y = simp (forced, ⊘_squashed) (s1_to_in (entry_of F).rows (squash_in d) u y (length (entry_of F).rows) (le_refl _) _ _ refl refl)

-- S2 is a binary64
s2_to_fits : (δ τ : Float) (rows : List Term) (powers bells : List Float) (i : ℕ) → T (fits binary64 (sums_to δ τ rows powers bells i).s2)
unfolding sums_to
s2_to_fits δ τ rows powers bells zero = of_int-fits binary64 (pos 0)
s2_to_fits δ τ rows powers bells (suc i) = simp (sums_forced, row_forced) (sum_fits _ _)

pub s2_fits : (k : Kept) (δ : Float) → T (fits binary64 (sums_at k δ).s2)
unfolding sums_at
s2_fits k δ = s2_to_fits _ _ (entry_of k.fluid).rows _ _ (length (entry_of k.fluid).rows)
