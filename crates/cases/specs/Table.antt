-- 01, "Checked values", the proved ones: the cases as rows of one table, under one statement, `Hold cases`.
use Rattle.std.specs.Prelude.{◌≡◌, List, [], ◌∷◌, map, ℕ, Float, get_or, Result, Ok, Err}
use Rattle.std.specs.Float.{nan}
use Rattle.refusals.specs.Answer.{Permit}
use Rattle.refusals.specs.declared.Refusal.{Refusal}
use Rattle.refusals.specs.declared.Refusal.TheVariants.{InputNotFinite, TemperatureOutside, PressureOutside, TopOutside, NoCell, AtZeroDensity}
use Rattle.arithmetic.specs.Checked.{real, ◌e-◌}
use Rattle.elementary.specs.Calls.{exponential_of, logarithm_of, square_root_of}
use Rattle.fluids.specs.declared.Fluid.TheVariants.{R245ca}
use Rattle.properties.specs.Calls.{pressure_of, entropy_of}
use Rattle.search.specs.Plain.{cell_from_below, cell_from_above}
use Rattle.search.specs.Lists.{greatest, least, greatest_list, least_list}
use Rattle.search.specs.Quick.{quick_cell}
use Rattle.search.specs.declared.Side.{Side}
use Rattle.search.specs.declared.Found.{Found}
use Rattle.density.specs.Calls.{plain_of, quick_of}
use Rattle.preparation.specs.Prepare.{prepare_of}

-- a row: what the definitions give, and what 01 prints
pub record Row : Type 1 where
  pub Outcome : Type 0
  pub worked : Outcome
  pub printed : Outcome

abbrev pub row : {A : Type 0} → A → A → Row
row {A} worked printed = record { Outcome = A; worked = worked; printed = printed }

-- a search at T and P, for the top counts c, from both sides and with all lists; and a preparation
abbrev pub plain_refused : Float → Float → (ℕ → ℕ) → Refusal → Row
plain_refused T P count r = row {A = ℕ → Side → Result Found Refusal} (λ c side. plain_of R245ca T P (count c) side) (λ c side. Err r)

abbrev pub quick_refused : Float → Float → (ℕ → ℕ) → Refusal → Row
quick_refused T P count r =
    row {A = ℕ → Side → List Float → List Float → Result Found Refusal} (λ c side g l. quick_of R245ca T P (count c) side g l) (λ c side g l. Err r)

abbrev pub preparation_refused : Float → (ℕ → ℕ) → Refusal → Row
preparation_refused T count r =
    row {A = ℕ → List Float → List Float → Permit} (λ c g l. prepare_of R245ca T (count c) g l) (λ c g l. Err r)

-- any top count, or one
abbrev pub any : ℕ → ℕ
any c = c

abbrev pub one : ℕ → ℕ → ℕ
one n c = n

-- pressures 0, 4, 2, 3, 9 at ends 0..4, and a lent list of five places
abbrev pub pressures : ℕ → Float
pressures j = get_or (map real (0 ∷ 4 ∷ 2 ∷ 3 ∷ 9 ∷ [])) j nan

abbrev pub lent : List Float
lent = map real (7 ∷ 7 ∷ 7 ∷ 7 ∷ 7 ∷ [])

-- the cell of P among these, plainly and over G or L
abbrev pub from_below : Float → Result ℕ Refusal → Row
from_below P cell = row (cell_from_below pressures P 4) cell

abbrev pub from_above : Float → Result ℕ Refusal → Row
from_above P cell = row (cell_from_above pressures P 4) cell

abbrev pub quick_from_below : Float → Result ℕ Refusal → Row
quick_from_below P cell = row (quick_cell (greatest pressures) pressures P 4) cell

abbrev pub quick_from_above : Float → Result ℕ Refusal → Row
quick_from_above P cell = row (quick_cell (least pressures 4) pressures P 4) cell

-- each row's two sides are equal
abbrev pub Holds : Row → Type 0
Holds r = r.worked ≡ r.printed

abbrev pub Hold : List Row → Type 0
Hold [] = Unit
Hold (r ∷ rows) = Holds r × Hold rows

abbrev pub cases : List Row
cases =
    -- (a) exp 0 = 1
    row (exponential_of (real 0)) (Ok (real 1))
    -- (b) ln 1 = 0
    ∷ row (logarithm_of (real 1)) (Ok (real 0))
    -- (c) root 65536 = 256
    ∷ row (square_root_of (real 65536)) (Ok (real 256))
    -- (d) pressure at 250 K, 0 is 0
    ∷ row (pressure_of R245ca (real 250) (real 0)) (Ok (real 0))
    -- (e) entropy there: 10
    ∷ row (entropy_of R245ca (real 250) (real 0)) (Err AtZeroDensity)
    -- (f) T NaN, P 0: 2
    ∷ plain_refused nan (real 0) any InputNotFinite
    ∷ quick_refused nan (real 0) any InputNotFinite
    ∷ preparation_refused nan any InputNotFinite
    -- (g) T 500, P 0: 3
    ∷ plain_refused (real 500) (real 0) any TemperatureOutside
    ∷ quick_refused (real 500) (real 0) any TemperatureOutside
    ∷ preparation_refused (real 500) any TemperatureOutside
    -- (h) P 0.5: 5
    ∷ plain_refused (real 400) (5 e- 1) any PressureOutside
    ∷ quick_refused (real 400) (5 e- 1) any PressureOutside
    -- (i) c 0 and c 1,665: 6
    ∷ plain_refused (real 400) (real 100000) (one 0) TopOutside
    ∷ quick_refused (real 400) (real 100000) (one 0) TopOutside
    ∷ preparation_refused (real 400) (one 0) TopOutside
    ∷ plain_refused (real 400) (real 100000) (one 1665) TopOutside
    ∷ quick_refused (real 400) (real 100000) (one 1665) TopOutside
    ∷ preparation_refused (real 400) (one 1665) TopOutside
    -- For pressures 0, 4, 2, 3, 9 at ends 0..4: (j) G is 0 4 4 4 9, L is 0 2 2 3 9
    ∷ row (greatest_list pressures 4 lent) (map real (0 ∷ 4 ∷ 4 ∷ 4 ∷ 9 ∷ []))
    ∷ row (least_list pressures 4 lent) (map real (0 ∷ 2 ∷ 2 ∷ 3 ∷ 9 ∷ []))
    -- (k) P 3: cell 0 from below, 3 from above
    ∷ from_below (real 3) (Ok 0)
    ∷ quick_from_below (real 3) (Ok 0)
    ∷ from_above (real 3) (Ok 3)
    ∷ quick_from_above (real 3) (Ok 3)
    -- (l) P 4 from below: cell 3
    ∷ from_below (real 4) (Ok 3)
    ∷ quick_from_below (real 4) (Ok 3)
    -- (m) P 9: 8 from both sides
    ∷ from_below (real 9) (Err NoCell)
    ∷ quick_from_below (real 9) (Err NoCell)
    ∷ from_above (real 9) (Err NoCell)
    ∷ quick_from_above (real 9) (Err NoCell)
    -- (n) P 2.5 from above: cell 2
    ∷ from_above (25 e- 1) (Ok 2)
    ∷ quick_from_above (25 e- 1) (Ok 2)
    ∷ []
