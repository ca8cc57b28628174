-- Reading and writing undo each other: letters name what has them, and a word's eight bytes give the word back.
use mathlib.Core.Path.{◌≡◌, refl, sym, ◌∙◌, ap}
use mathlib.Core.Bool.{Bool, true, false, true≢false}
use mathlib.Core.List.{List, [], ◌∷◌, ◌++◌, append-nil}
use Prim.Native.Nat.{ℕ, suc, ◌+◌, ◌^◌, ◌≤◌, ◌<◌}
use native.Mathlib.Omega.{arith}
use borrow.Author.Tests.{eq-eqb}
use lib.Dec.{eqb}
use lib.ListN.{length, take, drop, replicate, length-drop}
use lib.Seq.{take-suc, take_all, take-add, drop_at, drop-drop, get_or-drop}
use Rattle.std.specs.Prelude.{Option, Some, None, Result, Ok, Err}
use Rattle.refusals.specs.declared.Refusal.{Refusal}
use Rattle.refusals.specs.declared.Refusal.TheVariants.{UnknownMark}
use Rattle.refusals.proofs.Apart.{ok≢err}
use Rattle.words.specs.Word.{byte_at, word_of, bytes_of, Bytes}
use Rattle.words.proofs.Digits.{word_of_bytes, bytes_of_word}
use Rattle.words.proofs.Written.{bytes_length}
use Rattle.fluids.specs.declared.Fluid.{Fluid}
use Rattle.fluids.specs.Entries.{fluid_lettered}
use Rattle.fluids.proofs.Lettered.{this_or_after, after_known, lettered_letter as fluid_by_letter, letter_lettered as letter_of_fluid}
use Rattle.records.specs.declared.Kind.{Kind}
use Rattle.records.specs.declared.Kind.TheVariants.{Density, FromBelow, FromAbove, NoSide, NoReading}
use Rattle.records.specs.declared.Record.{Record}
use Rattle.records.specs.Record.{kind_letter, kind_lettered, mark_of, carries_numbers, carried, layout_of, marked, numbers_of, by_kind, of_fluid, by_fluid, marked_of, record_of}
use Rattle.records.proofs.Whole.{whole_length}
use Rattle.records.proofs.Laid.{carried_some, carried_none, layout_length}

-- ---- kinds and their letters

pub kind_by_letter : (kind : Kind) → kind_lettered (kind_letter kind) ≡ Ok kind
unfolding kind_lettered kind_letter
kind_by_letter Density = refl
kind_by_letter FromBelow = refl
kind_by_letter FromAbove = refl
kind_by_letter NoSide = refl
kind_by_letter NoReading = refl

pub letter_of_kind : (b : ℕ) (kind : Kind) → kind_lettered b ≡ Ok kind → b ≡ kind_letter kind
unfolding kind_lettered
letter_of_kind b kind =
    this_or_after kind_letter Ok b (λ e. cc)
    (this_or_after kind_letter Ok b (λ e. cc)
    (this_or_after kind_letter Ok b (λ e. cc)
    (this_or_after kind_letter Ok b (λ e. cc)
    (this_or_after kind_letter Ok b (λ e. cc)
    (λ none. absurd (true≢false cc))))))

-- no letter is refused but by 14
pub unlettered : (b : ℕ) {r : Refusal} → kind_lettered b ≡ Err r → r ≡ UnknownMark
unfolding kind_lettered
unlettered b e =
    let its : Kind → Bool = λ kind. eqb b (kind_letter kind) in
    let last =
    after_known _ (its NoReading) (after_known _ (its NoSide) (after_known _ (its FromAbove) (after_known _ (its FromBelow) (after_known _ (its Density) e)))) in
    cc

-- ---- what a kind carries

module _ (kind : Kind) where
  -- by whether it carries numbers
  by_numbers : {X : Type 0} → (carries_numbers kind ≡ true → X) → (carries_numbers kind ≡ false → X) → X
  by_numbers {X} some none = go (carries_numbers kind) refl
    where
      go : (b : Bool) → carries_numbers kind ≡ b → X
      go true e = some e
      go false e = none e

  pub carried_again : (w : ℕ) → carried kind (carried kind w) ≡ carried kind w
  carried_again w = by_numbers (λ e. carried_some kind (carried kind w) e) (λ e. carried_none kind (carried kind w) e ∙ sym (carried_none kind w e))

  pub carried_fits : (w : ℕ) → w < 2 ^ 64 → carried kind w < 2 ^ 64
  carried_fits w h = by_numbers (λ e. rw (carried_some kind w e) h) (λ e. rw (carried_none kind w e) (omega arith))

-- ---- reading what was written

module _ (kind : Kind) (F : Fluid) (x y : ℕ) where
  second_half : drop 10 (layout_of kind F x y) ≡ bytes_of (carried kind y)
  unfolding layout_of mark_of
  second_half = drop_at (bytes_of (carried kind x)) (bytes_of (carried kind y)) 8 (bytes_length (carried kind x))

  module _ (fits_x : x < 2 ^ 64) (fits_y : y < 2 ^ 64) where
    first_word : word_of (drop 2 (layout_of kind F x y)) ≡ carried kind x
    unfolding layout_of mark_of
    first_word = word_of_bytes (carried kind x) (bytes_of (carried kind y)) (carried_fits kind x fits_x)

    second_word : word_of (drop 10 (layout_of kind F x y)) ≡ carried kind y
    second_word =
        ap (λ (s : List ℕ). word_of s) (second_half ∙ sym (append-nil (bytes_of (carried kind y))))
        ∙ word_of_bytes (carried kind y) [] (carried_fits kind y fits_y)

    numbers_written : numbers_of kind F (layout_of kind F x y) ≡ marked kind F (carried kind x) (carried kind y)
    unfolding numbers_of
    numbers_written = simp (first_word, second_word, carried_again kind x, carried_again kind y)

    by_mark : marked_of (layout_of kind F x y) ≡ Ok (numbers_of kind F (layout_of kind F x y))
    unfolding marked_of of_fluid layout_of mark_of
    by_mark = simp (fluid_by_letter F, kind_by_letter kind)

    pub read_of_written : record_of (layout_of kind F x y) ≡ Ok (marked kind F (carried kind x) (carried kind y))
    unfolding record_of
    read_of_written = simp (eq-eqb (length (layout_of kind F x y)) 18 (layout_length kind F x y)) (by_mark ∙ ap Ok numbers_written)

-- ---- writing what was read

-- what a record says that is read with a known mark
pub record Says (s : List ℕ) (kind : Kind) (F : Fluid) (x y : ℕ) : Type 0 where
  pub fluid : fluid_lettered (byte_at s 0) ≡ Some F
  pub letter : kind_lettered (byte_at s 1) ≡ Ok kind
  pub first : x ≡ carried kind (word_of (drop 2 s))
  pub second : y ≡ carried kind (word_of (drop 10 s))

module _ (s : List ℕ) (kind : Kind) (F : Fluid) (x y : ℕ) where
  says_numbers : {k : Kind} {G : Fluid} → fluid_lettered (byte_at s 0) ≡ Some G → kind_lettered (byte_at s 1) ≡ Ok k → numbers_of k G s ≡ marked kind F x y → Says s kind F x y
  unfolding numbers_of
  says_numbers {k} {G} f l e =
      let same_kind : k ≡ kind = ap (λ (r : Record). r.kind) e in
      let same_fluid : G ≡ F = ap (λ (r : Record). r.fluid) e in
      let first : x ≡ carried k (word_of (drop 2 s)) = sym (ap (λ (r : Record). r.first) e) in
      let second : y ≡ carried k (word_of (drop 10 s)) = sym (ap (λ (r : Record). r.second) e) in
      record {
        fluid = f ∙ ap Some same_fluid;
        letter = l ∙ ap Ok same_kind;
        first = first ∙ ap (λ (k : Kind). carried k (word_of (drop 2 s))) same_kind;
        second = second ∙ ap (λ (k : Kind). carried k (word_of (drop 10 s))) same_kind;
      }

  says_kind : (G : Fluid) → fluid_lettered (byte_at s 0) ≡ Some G → (l : Result Kind Refusal) → kind_lettered (byte_at s 1) ≡ l → by_kind l G s ≡ Ok (marked kind F x y) → Says s kind F x y
  says_kind G f (Ok k) l e = says_numbers f l cc
  says_kind G f (Err r) l e = absurd (ok≢err (sym e))

  says_fluid : (n : Option Fluid) → fluid_lettered (byte_at s 0) ≡ n → by_fluid n s ≡ Ok (marked kind F x y) → Says s kind F x y
  unfolding of_fluid
  says_fluid (Some G) f e = says_kind G f (kind_lettered (byte_at s 1)) refl e
  says_fluid None f e = absurd (ok≢err (sym e))

  module _ (read : record_of s ≡ Ok (marked kind F x y)) where
    pub whole : length s ≡ 18
    whole = whole_length s (sym read) ok≢err

    pub says : Says s kind F x y
    unfolding record_of marked_of
    says = says_fluid (fluid_lettered (byte_at s 0)) refl (simp (eq-eqb (length s) 18 whole) at read)

    mark_read : mark_of kind F ≡ take 2 s
    unfolding mark_of
    mark_read =
        let place : (k : ℕ) → k < 2 → take (suc k) s ≡ take k s ++ (byte_at s k ∷ []) = λ k below. take-suc s k 0 (omega (arith, whole)) in
        simp (sym (letter_of_fluid (byte_at s 0) F says.fluid), sym (letter_of_kind (byte_at s 1) kind says.letter))
        (sym (place 1 (omega arith) ∙ simp (place 0 (omega arith))))

    -- a no-reading record: the mark and sixteen zeros
    pub written_of_no_reading : carries_numbers kind ≡ false → layout_of kind F x y ≡ take 2 s ++ replicate 16 0
    unfolding layout_of bytes_of
    written_of_no_reading e = simp (mark_read, carried_none kind x e, carried_none kind y e)

    module _ (bytes : Bytes s) where
      word_bytes : (n : ℕ) → n + 8 ≤ 18 → bytes_of (word_of (drop n s)) ≡ take 8 (drop n s)
      word_bytes n h = bytes_of_word (drop n s) (rw length-drop (omega (arith, whole))) (λ k. rw (get_or-drop n s k 0) (bytes (n + k)))

      in_parts : take 2 s ++ (take 8 (drop 2 s) ++ take 8 (drop 10 s)) ≡ s
      in_parts =
          sym (ap (λ (l : List ℕ). take 2 s ++ l) (take-add 8 8 (drop 2 s) ∙ simp drop-drop))
          ∙ sym (take-add 2 16 s)
          ∙ take_all 18 s (omega (arith, whole))

      -- any other: the same 18 bytes
      pub written_of_read : carries_numbers kind ≡ true → layout_of kind F x y ≡ s
      unfolding layout_of
      written_of_read e =
          let first : carried kind x ≡ word_of (drop 2 s) = carried_some kind x e ∙ says.first ∙ carried_some kind (word_of (drop 2 s)) e in
          let second : carried kind y ≡ word_of (drop 10 s) = carried_some kind y e ∙ says.second ∙ carried_some kind (word_of (drop 10 s)) e in
          simp (mark_read, ap bytes_of first ∙ word_bytes 2 (omega arith), ap bytes_of second ∙ word_bytes 10 (omega arith)) in_parts
