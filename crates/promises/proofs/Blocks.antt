-- The public call of the crate `blocks` promises one outcome where it reads known bytes to their end or until the block is full: it has the front of them, and the rest is left.
use mathlib.Core.Path.{◌≡◌, sym, ◌∙◌, ap, subst}
use mathlib.Core.List.{List}
use mathlib.Core.Logic.{inl, inr}
use Prim.Native.Nat.{ℕ, ◌≤◌, ◌<◌}
use mir.Syntax.{Dict}
use denote.RattleType.{RattleType}
use denote.Param.Laws.{Laws}
use Rattle.std.specs.Prelude.{Option, None, Some, Result, Ok, Err, ◌++◌, length, take, drop, IsOk, OnOk}
use Rattle.std.specs.Io.KnownBytes.{Consumes, IsAtEnd}
use Rattle.std.specs.declared.io.traits.Read.{Ghosts}
use native.Mathlib.Omega.{arith}
use Rattle.std.proofs.lemmas.List.{take_at, drop_at, take_all, append-nil, length-take-le}
use Rattle.std.proofs.Math.ListN.{drop_of_length-le}
use Rattle.std.proofs.Math.Nat.{eq-or-lt_of_le}
use Rattle.promises.specs.OneOutcome.{OneReading}
use Rattle.blocks.proofs.fill.Kinds as fill_kinds
use Rattle.blocks.proofs.fill.Reads as fill_reads

-- how many bytes were read, these, and what is left to read
abbrev pub Read : Type 0
Read = ℕ × List ℕ × Option (List ℕ)

abbrev front : List ℕ → ℕ → Read
front xs room = (length (take room xs), take room xs, Some (drop room xs))

front_read : (xs bs : List ℕ) (left : Option (List ℕ)) (room : ℕ) → Consumes (Some xs) left bs → length bs ≤ room → (length bs < room → IsAtEnd left) → (bs ≡ take room xs) × (left ≡ Some (drop room xs))
front_read xs bs None room p within end = absurd p
front_read xs bs (Some ys) room p within end = elim (eq-or-lt_of_le within) [
  | inl e ↦ (sym (ap (take room) p ∙ take_at bs ys room e), ap Some (sym (ap (drop room) p ∙ drop_at bs ys room e)))
  | inr h ↦
      let all : xs ≡ bs = p ∙ ap (λ l. bs ++ l) (end h) ∙ append-nil bs in
      (sym (ap (take room) all ∙ take_all room bs within), ap Some (end h ∙ sym (ap (drop room) all ∙ drop_of_length-le bs within)))
]

read_one : (xs b : List ℕ) (was left : Option (List ℕ)) (n room : ℕ) → was ≡ Some xs → length b ≡ room → n ≤ room → Consumes was left (take n b) → (n < room → IsAtEnd left)
    → ◌≡◌ {A = Read} (n, take n b, left) (front xs room)
read_one xs b was left n room known long within read end =
    let count = length-take-le n b (omega (arith, long, within)) in
    let both = front_read xs (take n b) left room (subst (λ o. Consumes o left (take n b)) known read) (omega (arith, count, within)) (λ h. end (omega (arith, count, h))) in
    (λ i. ((sym count ∙ ap length both.0) i, both.0 i, both.1 i))

where_ok : {A E P : Type 0} (r : Result A E) → IsOk r → OnOk r P → P
where_ok (Ok v) ok p = p
where_ok (Err e) ok p = cc

pub fill_one : (T : RattleType) (l : Laws T) (g : Ghosts T.Denot) (d : Dict) → let learnt = fill_reads.Learnt in
    OneReading _ (fill_kinds.ps T l) (fill_kinds.r T l) Read
    (λ κs a. (xs : List ℕ) × (g.remaining a.0.now ≡ Some xs))
    (λ κs x. IsOk x.1)
    (λ κs x e. (x.0, take x.0 e.1.0.now, g.remaining e.0.now))
    (learnt T l g d)
fill_one T l g d κs a x y e f known ok ok' (long, (within, (bytes, (end, _)))) (long', (within', (bytes', (end', _)))) =
    let room = length a.1.0.now in
    let first = read_one known.0 e.1.0.now _ (g.remaining e.0.now) x.0 room known.1 long within bytes (where_ok x.1 ok end) in
    let second = read_one known.0 f.1.0.now _ (g.remaining f.0.now) y.0 room known.1 long' within' bytes' (where_ok y.1 ok' end') in
    first ∙ sym second
