-- 02, M-103: writing a record at a place of a lent buffer. What the call ends with is its code and the buffer afterwards: 14 for an unknown
-- kind, then 17, then 7 where 18 bytes have no room at that place, and the buffer as it was; or 0, and the 18 bytes there.
use Rattle.std.specs.Prelude.{cond, List, ℕ, ◌+◌, leb, length, Result, Ok, Err}
use Rattle.refusals.specs.declared.Refusal.{Refusal}
use Rattle.refusals.specs.declared.Refusal.TheVariants.{TooShort}
use Rattle.refusals.specs.Code.{code_of}
use Rattle.words.specs.Word.{placed}
use Rattle.fluids.specs.declared.Fluid.{Fluid}
use Rattle.inputs.specs.Numbered.{by_number}
use Rattle.records.specs.declared.Kind.{Kind}
use Rattle.records.specs.Record.{kind_lettered, layout_of}

-- a code, and the buffer afterwards
abbrev pub Ended : Type 0
Ended = ℕ × List ℕ

-- a refused call writes nothing
abbrev pub refused_with : List ℕ → Refusal → Ended
refused_with buffer r = (code_of r, buffer)

-- the 18 bytes at the place, all other bytes as they were; 7 if there is no room for them, where place and 18 are added as whole
-- numbers, whatever their sum
unfoldable pub written_at : Kind → Fluid → ℕ → ℕ → List ℕ → ℕ → Ended
written_at kind F x y buffer place =
    cond (leb (place + 18) (length buffer)) (0, placed place (layout_of kind F x y) buffer) (refused_with buffer TooShort)

-- 17 before that: no fluid has the number
unfoldable pub written_of : Kind → ℕ → ℕ → ℕ → List ℕ → ℕ → Ended
written_of kind fluid x y buffer place = by_number (refused_with buffer) fluid (λ F. written_at kind F x y buffer place)

-- 14 before both: the kind is the code of the mark's second letter
abbrev pub by_letter : {A : Type 0} → (Refusal → A) → Result Kind Refusal → (Kind → A) → A
by_letter refused (Ok kind) call = call kind
by_letter refused (Err r) call = refused r

unfoldable pub write_of : ℕ → ℕ → ℕ → ℕ → List ℕ → ℕ → Ended
write_of kind fluid x y buffer place = by_letter (refused_with buffer) (kind_lettered kind) (λ k. written_of k fluid x y buffer place)
