-- The pressure at the greatest density is above every pressure that may be asked for, at every temperature of the range: one computed test
-- over slices of temperature, for any fluid's entry.
use mathlib.Core.Path.{◌≡◌}
use mathlib.Core.Bool.{Bool, true, false, ◌&&◌}
use lib.Dec.{T}
use lib.Ieee.{Float, le, lt}
use lib.Ieee.Fits.{and_l, and_r}
use lib.Ieee.Scale.{finite}
use Rattle.arithmetic.specs.Checked.{real}
use Rattle.arithmetic.proofs.Order.{lt_le_trans}
use Rattle.fluids.specs.declared.Fluid.{Fluid}
use Rattle.fluids.specs.Entry.{Entry}
use Rattle.fluids.specs.Entries.{entry_of}
use Rattle.equation.specs.State.{state_at, pressure_value}
use Rattle.equation.proofs.Entry.{state_is}
use Rattle.intervals.proofs.Fractions.{is_true, test_of_order}
use Rattle.intervals.proofs.Interval.{Interval, unknown, ends, In, anything, inside, interval, tested, either_side, point, at, ◌▶◌, computed}
use Rattle.intervals.proofs.Sum.{◌⊞◌, ◌⟨⊕⟩◌}
use Rattle.intervals.proofs.Product.{◌⊠◌, ◌⟨⊗⟩◌}
use Rattle.intervals.proofs.Quotient.{◌÷◌, ◌⟨⊘⟩◌}
use Rattle.intervals.proofs.Logarithm.{ln_over, ⟨ln⟩}
use Rattle.ranges.proofs.Rows.{s1_over, s1_in}
use Rattle.intervals.proofs.Representable.{quotient_fits}

-- ---- the pressure alone
unfoldable pub pressure_over : Entry → Interval → Interval → Interval
pressure_over E Θ Ρ =
    point E.Tc ÷ Θ ▶ λ U.
    ln_over U ▶ λ Y.
    Ρ ÷ point E.ρc ▶ λ Δ.
    ((Ρ ⊠ point (real 1000)) ⊠ (point E.R ⊠ Θ)) ⊠ (point (real 1) ⊞ s1_over E Δ U Y)

pressure_in : {Θ Ρ : Interval} (F : Fluid) (t r : Float) → In Θ t → In Ρ r → In (pressure_over (entry_of F) Θ Ρ) (pressure_value (state_at F t r))
unfolding pressure_over pressure_value
pressure_in F t r a b =
    let E = entry_of F in
    let u = at E.Tc ⟨⊘⟩ a in
    let y = ⟨ln⟩ (quotient_fits E.Tc t) u in
    rw state_is
    (simp computed (((b ⟨⊗⟩ at (real 1000)) ⟨⊗⟩ (at E.R ⟨⊗⟩ a)) ⟨⊗⟩ (at (real 1) ⟨⊕⟩ s1_in F t (b ⟨⊘⟩ at E.ρc) u y)))

-- ---- above a value
abbrev above : Float → Interval → Bool
above c unknown = false
above c (ends l h) = lt c l

above_in : {I : Interval} {x : Float} (c : Float) → T (above c I) → In I x → lt c x ≡ true
above_in c t anything = absurd t
above_in {x = x} c t (inside {l} {h} a) = lt_le_trans c l x (is_true (lt c l) t) (is_true (le l x) (test_of_order l x a.low a.here a.above))

-- ---- slices of temperature
-- from lo to hi the pressure at the top is above every permitted one
abbrev pub Rises : Fluid → Float → Float → Type 0
Rises F lo hi = (t : Float) → T (finite t) → T (le lo t) → T (le t hi) → lt (entry_of F).greatest_P (pressure_value (state_at F t (entry_of F).greatest_ρ)) ≡ true

-- the computed test of one slice
abbrev pub slice : Entry → Float → Float → Bool
slice E lo hi = (finite lo && finite hi) && above E.greatest_P (pressure_over E (interval lo hi) (point E.greatest_ρ))

pub slice_rises : (F : Fluid) (lo hi : Float) → T (slice (entry_of F) lo hi) → Rises F lo hi
slice_rises F lo hi s t f l h =
    let e = and_l (finite lo && finite hi) (above (entry_of F).greatest_P (pressure_over (entry_of F) (interval lo hi) (point (entry_of F).greatest_ρ))) s in
    above_in (entry_of F).greatest_P (and_r (finite lo && finite hi) (above (entry_of F).greatest_P (pressure_over (entry_of F) (interval lo hi) (point (entry_of F).greatest_ρ))) s)
    (pressure_in F t (entry_of F).greatest_ρ (tested lo hi t (and_l (finite lo) (finite hi) e) (and_r (finite lo) (finite hi) e) l h) (at (entry_of F).greatest_ρ))

-- two slices that meet
pub joined : (F : Fluid) (lo c hi : Float) → T (finite c) → Rises F lo c → Rises F c hi → Rises F lo hi
joined F lo c hi q lower upper t f l h = either_side t c f q (λ low. lower t f l low) (λ high. upper t f high h)
