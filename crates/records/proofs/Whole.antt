-- A record that is not read as cut short has 18 bytes.
use mathlib.Core.Path.{◌≡◌, refl, ◌∙◌}
use mathlib.Core.Bool.{Bool, true, false}
use mathlib.Core.List.{List}
use Prim.Native.Nat.{ℕ}
use borrow.Author.Tests.{eqb-true}
use lib.Dec.{eqb}
use lib.ListN.{length}
use Rattle.std.specs.Prelude.{Result, Err}
use Rattle.refusals.specs.declared.Refusal.{Refusal}
use Rattle.refusals.specs.declared.Refusal.TheVariants.{CutShort}
use Rattle.records.specs.declared.Record.{Record}
use Rattle.records.specs.Record.{record_of}

pub whole_length : (s : List ℕ) {r : Result Record Refusal} → r ≡ record_of s → (r ≡ Err CutShort → ⊥) → length s ≡ 18
unfolding record_of
whole_length s {r} e h = go (eqb (length s) 18) refl
  where
    go : (b : Bool) → eqb (length s) 18 ≡ b → length s ≡ 18
    go true t = eqb-true (length s) 18 t
    go false t = absurd (h (e ∙ simp t))
