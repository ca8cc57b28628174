-- What follows of the writing call from its definition, for readers who want 02's sentences one by one: by the four ways in which it ends.
use mathlib.Core.Path.{◌≡◌, refl, sym, ◌∙◌, ap}
use mathlib.Core.Logic.{◌↔◌, inl, inr}
use mathlib.Core.Bool.{true, false}
use mathlib.Core.List.{List, [], ◌∷◌, ◌++◌}
use Prim.Native.Nat.{ℕ, ◌+◌, ◌^◌, ◌≤◌, ◌<◌}
use borrow.Author.Tests.{le-leb, lt-leb, leb-true, leb-false}
use lib.Dec.{leb}
use lib.ListN.{length, take, drop, replicate}
use Rattle.std.specs.Prelude.{Result, Ok, Err}
use Rattle.refusals.specs.declared.Refusal.{Refusal}
use Rattle.refusals.specs.declared.Refusal.TheVariants.{UnknownMark, UnknownFluid}
use Rattle.refusals.specs.Code.{OneOf}
use Rattle.refusals.proofs.Tests.{by}
use Rattle.refusals.proofs.Apart.{another_code}
use Rattle.words.specs.Word.{Bytes, placed}
use Rattle.words.proofs.Placed.{placed_before, placed_there, placed_after}
use Rattle.fluids.specs.declared.Fluid.{Fluid}
use Rattle.fluids.specs.Entries.{fluid_numbered}
use Rattle.fluids.proofs.Lettered.{unnumbered}
use Rattle.records.specs.declared.Kind.{Kind}
use Rattle.records.specs.Record.{kind_lettered, carries_numbers, carried, layout_of, marked, record_of}
use Rattle.records.proofs.Laid.{carried_some, layout_length}
use Rattle.records.proofs.RoundTrip.{unlettered, read_of_written, written_of_read, written_of_no_reading}
use Rattle.writing.specs.Write.{Ended, written_of, write_of}
use Rattle.writing.proofs.Placing.{with_room, without_room}

-- ---- what numbers name

-- a kind has the letter; a fluid has the number
abbrev pub NamesKind : ℕ → Type 0
NamesKind n = (kind : Kind) × (kind_lettered n ≡ Ok kind)

abbrev pub NamesFluid : ℕ → Type 0
NamesFluid n = (F : Fluid) × (fluid_numbered n ≡ Ok F)

by_kind : {X : Type 0} (n : ℕ) → (kind_lettered n ≡ Err UnknownMark → X) → (NamesKind n → X) → X
by_kind {X} n none some = go (kind_lettered n) refl
  where
    go : (l : Result Kind Refusal) → kind_lettered n ≡ l → X
    go (Ok kind) e = some (kind, e)
    go (Err r) e = none (e ∙ ap Err (unlettered n e))

by_fluid_lem : {X : Type 0} (n : ℕ) → (fluid_numbered n ≡ Err UnknownFluid → X) → (NamesFluid n → X) → X
by_fluid_lem {X} n none some = go (fluid_numbered n) refl
  where
    go : (l : Result Fluid Refusal) → fluid_numbered n ≡ l → X
    go (Ok F) e = some (F, e)
    go (Err r) e = none (e ∙ ap Err (unnumbered n e))

module _ (kind fluid x y : ℕ) (buffer : List ℕ) (place : ℕ) where
  -- ---- the four ways in which the call ends

  ends_with_14 : kind_lettered kind ≡ Err UnknownMark → write_of kind fluid x y buffer place ≡ (14, buffer)
  unfolding write_of
  ends_with_14 e = simp e

  ends_with_17 : NamesKind kind → fluid_numbered fluid ≡ Err UnknownFluid → write_of kind fluid x y buffer place ≡ (17, buffer)
  unfolding write_of written_of
  ends_with_17 k e = simp (k.1, e)

  ends_with_7 : NamesKind kind → NamesFluid fluid → length buffer < place + 18 → write_of kind fluid x y buffer place ≡ (7, buffer)
  unfolding write_of written_of
  ends_with_7 k f h = simp (k.1, f.1) (without_room k.0 f.0 x y buffer place (lt-leb (place + 18) (length buffer) h))

  ends_with_0 : (k : NamesKind kind) (f : NamesFluid fluid) → place + 18 ≤ length buffer →
      write_of kind fluid x y buffer place ≡ (0, placed place (layout_of k.0 f.0 x y) buffer)
  unfolding write_of written_of
  ends_with_0 k f h = simp (k.1, f.1) (with_room k.0 f.0 x y buffer place (le-leb (place + 18) (length buffer) h))

  code_is : {n : ℕ} {l : List ℕ} → write_of kind fluid x y buffer place ≡ (n, l) → (write_of kind fluid x y buffer place).0 ≡ n
  code_is ends = ap (λ (x : Ended). x.0) ends

  by_end : {X : Type 0} → (kind_lettered kind ≡ Err UnknownMark → X) → (NamesKind kind → fluid_numbered fluid ≡ Err UnknownFluid → X) →
      (NamesKind kind → NamesFluid fluid → length buffer < place + 18 → X) → (NamesKind kind → NamesFluid fluid → place + 18 ≤ length buffer → X) → X
  by_end no_kind no_fluid no_room written =
      by_kind kind no_kind
      (λ k. by_fluid_lem fluid (no_fluid k)
      (λ f. by (leb (place + 18) (length buffer))
      (λ e. written k f (leb-true (place + 18) (length buffer) e))
      (λ e. no_room k f (leb-false (place + 18) (length buffer) e))))

  -- ---- its codes, each exactly where it is owed: 14, then 17, then 7

  pub exactly_fourteen : ((write_of kind fluid x y buffer place).0 ≡ 14) ↔ (kind_lettered kind ≡ Err UnknownMark)
  exactly_fourteen = (
    λ e. by_end
        (λ u. u)
        (λ k u. another_code tt (code_is (ends_with_17 k u)) e)
        (λ k f h. another_code tt (code_is (ends_with_7 k f h)) e)
        (λ k f h. another_code tt (code_is (ends_with_0 k f h)) e),
    λ u. code_is (ends_with_14 u),
  )

  pub exactly_seventeen : ((write_of kind fluid x y buffer place).0 ≡ 17) ↔ (NamesKind kind × (fluid_numbered fluid ≡ Err UnknownFluid))
  exactly_seventeen = (
    λ e. by_end
        (λ u. another_code tt (code_is (ends_with_14 u)) e)
        (λ k u. (k, u))
        (λ k f h. another_code tt (code_is (ends_with_7 k f h)) e)
        (λ k f h. another_code tt (code_is (ends_with_0 k f h)) e),
    λ h. code_is (ends_with_17 h.0 h.1),
  )

  pub exactly_seven : ((write_of kind fluid x y buffer place).0 ≡ 7) ↔ (NamesKind kind × NamesFluid fluid × (length buffer < place + 18))
  exactly_seven = (
    λ e. by_end
        (λ u. another_code tt (code_is (ends_with_14 u)) e)
        (λ k u. another_code tt (code_is (ends_with_17 k u)) e)
        (λ k f h. (k, f, h))
        (λ k f h. another_code tt (code_is (ends_with_0 k f h)) e),
    λ h. code_is (ends_with_7 h.0 h.1 h.2),
  )

  pub exactly_written : ((write_of kind fluid x y buffer place).0 ≡ 0) ↔ (NamesKind kind × NamesFluid fluid × (place + 18 ≤ length buffer))
  exactly_written = (
    λ e. by_end
        (λ u. another_code tt (code_is (ends_with_14 u)) e)
        (λ k u. another_code tt (code_is (ends_with_17 k u)) e)
        (λ k f h. another_code tt (code_is (ends_with_7 k f h)) e)
        (λ k f h. (k, f, h)),
    λ h. code_is (ends_with_0 h.0 h.1 h.2),
  )

  -- and no other
  pub one_of_four : OneOf (write_of kind fluid x y buffer place).0 (0 ∷ 7 ∷ 14 ∷ 17 ∷ [])
  one_of_four =
      by_end
      (λ u. inr (inr (inl (exactly_fourteen.1 u))))
      (λ k u. inr (inr (inr (inl (exactly_seventeen.1 (k, u))))))
      (λ k f h. inr (inl (exactly_seven.1 (k, f, h))))
      (λ k f h. inl (exactly_written.1 (k, f, h)))

  -- ---- the buffer

  left : {n : ℕ} → write_of kind fluid x y buffer place ≡ (n, buffer) → (write_of kind fluid x y buffer place).1 ≡ buffer
  left ends = ap (λ (x : Ended). x.1) ends

  -- by whether the record was written
  by_written : {X : Type 0} → ((write_of kind fluid x y buffer place).1 ≡ buffer → X) →
      ((k : NamesKind kind) (f : NamesFluid fluid) → place + 18 ≤ length buffer → (write_of kind fluid x y buffer place).1 ≡ placed place (layout_of k.0 f.0 x y) buffer → X) → X
  by_written refused written =
      by_end
      (λ u. refused (left (ends_with_14 u)))
      (λ k u. refused (left (ends_with_17 k u)))
      (λ k f h. refused (left (ends_with_7 k f h)))
      (λ k f h. written k f h (ap (λ (x : Ended). x.1) (ends_with_0 k f h)))

  -- a refused call leaves every byte
  pub refused_write : ((write_of kind fluid x y buffer place).0 ≡ 0 → ⊥) → (write_of kind fluid x y buffer place).1 ≡ buffer
  refused_write refused = by_written (λ same. same) (λ k f h e. absurd (refused (exactly_written.1 (k, f, h))))

  module _ (k : NamesKind kind) (f : NamesFluid fluid) (room : place + 18 ≤ length buffer) where
    inside : place + length (layout_of k.0 f.0 x y) ≤ length buffer
    inside = rw (layout_length k.0 f.0 x y) room

    -- the 18 bytes stand at the place
    pub record_there : take 18 (drop place (write_of kind fluid x y buffer place).1) ≡ layout_of k.0 f.0 x y
    record_there =
        let l = layout_of k.0 f.0 x y in
        ap (λ (x : Ended). take 18 (drop place x.1)) (ends_with_0 k f room)
        ∙ ap (λ (n : ℕ). take n (drop place (placed place l buffer))) (sym (layout_length k.0 f.0 x y))
        ∙ placed_there place l buffer inside

    -- reading them gives the kind, the fluid and what a record of the kind carries
    pub read_back : x < 2 ^ 64 → y < 2 ^ 64 →
        record_of (take 18 (drop place (write_of kind fluid x y buffer place).1)) ≡ Ok (marked k.0 f.0 (carried k.0 x) (carried k.0 y))
    read_back fits_x fits_y = ap record_of record_there ∙ read_of_written k.0 f.0 x y fits_x fits_y

    -- and so for D, B, A and P the same bits
    pub read_back_numbers : carries_numbers k.0 ≡ true → x < 2 ^ 64 → y < 2 ^ 64 →
        record_of (take 18 (drop place (write_of kind fluid x y buffer place).1)) ≡ Ok (marked k.0 f.0 x y)
    read_back_numbers some fits_x fits_y =
        read_back fits_x fits_y ∙ simp (carried_some k.0 x some, carried_some k.0 y some)

    module _ (s : List ℕ) (read : record_of s ≡ Ok (marked k.0 f.0 x y)) where
      -- writing what was read gives the same 18 bytes
      pub write_back : Bytes s → carries_numbers k.0 ≡ true → write_of kind fluid x y buffer place ≡ (0, placed place s buffer)
      write_back each some =
          ends_with_0 k f room ∙ ap (λ (l : List ℕ). (0, placed place l buffer)) (written_of_read s k.0 f.0 x y read each some)

      -- and of a no-reading record the mark and sixteen zeros
      pub write_back_no_reading : carries_numbers k.0 ≡ false → write_of kind fluid x y buffer place ≡ (0, placed place (take 2 s ++ replicate 16 0) buffer)
      write_back_no_reading none =
          ends_with_0 k f room ∙ ap (λ (l : List ℕ). (0, placed place l buffer)) (written_of_no_reading s k.0 f.0 x y read none)

  -- no byte before the place or after the eighteenth from it on ever changes
  pub bytes_before : take place (write_of kind fluid x y buffer place).1 ≡ take place buffer
  bytes_before =
      by_written (λ same. ap (take place) same)
      (λ k f room e. ap (take place) e ∙ placed_before place (layout_of k.0 f.0 x y) buffer (inside k f room))

  pub bytes_after : drop (place + 18) (write_of kind fluid x y buffer place).1 ≡ drop (place + 18) buffer
  bytes_after =
      by_written (λ same. ap (drop (place + 18)) same)
      (λ k f room e.
      let l = layout_of k.0 f.0 x y in
      let size = layout_length k.0 f.0 x y in
      ap (drop (place + 18)) e
      ∙ ap (λ (n : ℕ). drop (place + n) (placed place l buffer)) (sym size)
      ∙ placed_after place l buffer (inside k f room)
      ∙ ap (λ (n : ℕ). drop (place + n) buffer) size)
