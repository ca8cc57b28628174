-- `mark` meets its contract, by what was read: a record with letters is whole.
use mathlib.Core.Path.{◌≡◌, refl, sym, ◌∙◌, ap}
use mathlib.Core.List.{List}
use Prim.Native.Nat.{ℕ}
use native.Mathlib.Omega.{arith}
use borrow.Author.Rules.{rules}
use Rattle.std.specs.Prelude.{Result, Err}
use Rattle.refusals.specs.declared.Refusal.{Refusal}
use Rattle.refusals.specs.declared.Refusal.TheVariants.{CutShort}
use Rattle.records.specs.declared.Record.{Record}
use Rattle.refusals.proofs.Apart.{ok≢err}
use Rattle.records.specs.Record.{record_of}
use Rattle.records.proofs.Whole.{whole_length}
use Rattle.lines.specs.Letters.{bytes}
use Rattle.lines.specs.Lines.{mark_of, mark_text}
use Rattle.lines.proofs.mark.Goals as goal

mark_is : (s : List ℕ) {r known : Result Record Refusal} → r ≡ record_of s → r ≡ known → mark_of known s ≡ mark_text s
unfolding mark_text
mark_is s e f = ap (λ (r : Result Record Refusal). mark_of r s) (sym f ∙ e)

-- a refusal that is not 15
not_cut : (r : Refusal) (s : List ℕ) → (r ≡ CutShort → ⊥) → bytes "??" ≡ mark_of (Err r) s
not_cut CutShort s other = absurd (other refl)
not_cut r s other = refl

pub bounds-s-0 : goal.bounds-s-0
bounds-s-0 c =
    let whole = whole_length _ (sym c.in-Ok.is ∙ c.read.ensures) ok≢err in
    omega arith

pub bounds-s-1 : goal.bounds-s-1
bounds-s-1 c =
    let whole = whole_length _ (sym c.in-Ok.is ∙ c.read.ensures) ok≢err in
    omega arith

pub returns-in-Ok : goal.returns-in-Ok
returns-in-Ok c = mark_is _ c.read.ensures c.in-Ok.is

pub returns-in-Err-CutShort : goal.returns-in-Err-CutShort
returns-in-Err-CutShort c = mark_is _ c.read.ensures (c.in-Err-CutShort.is ∙ ap Err c.in-Err-CutShort.field-0-is)

pub returns-in-Err : goal.returns-in-Err
returns-in-Err c = not_cut _ _ (λ e. search rules) ∙ mark_is _ c.read.ensures c.in-Err.is
