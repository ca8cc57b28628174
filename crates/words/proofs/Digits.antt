-- A word and its bytes give each other back: a word is its last byte and 256 times what is above it.
use mathlib.Core.Path.{◌≡◌, sym, ◌∙◌}
use mathlib.Core.List.{List, [], ◌∷◌, ◌++◌}
use Prim.Native.Nat.{ℕ, suc, ◌+◌, ◌*◌, ◌/◌, ◌%◌, ◌^◌, ◌≤◌, ◌<◌}
use native.Mathlib.Omega.{arith}
use native.Mathlib.Nat.{div-div-eq-div-mul}
use lib.ListN.{length, take}
use lib.Seq.{take-suc}
use Rattle.words.specs.Word.{byte_at, word_of, bytes_of, Bytes}

-- ---- from a word to its bytes and back

last_and_above : (w n : ℕ) → w / n % 256 + 256 * (w / (n * 256)) ≡ w / n
last_and_above w n = rw (sym (div-div-eq-div-mul w n 256)) (omega arith)

pub word_of_bytes : (w : ℕ) (rest : List ℕ) → w < 2 ^ 64 → word_of (bytes_of w ++ rest) ≡ w
unfolding bytes_of
word_of_bytes w rest h =
    let top : w / 2 ^ 56 % 256 ≡ w / 2 ^ 56 = omega arith in
    let first : w % 256 + 256 * (w / 2 ^ 8) ≡ w = omega arith in
    simp (
      top,
      last_and_above w (2 ^ 48),
      last_and_above w (2 ^ 40),
      last_and_above w (2 ^ 32),
      last_and_above w (2 ^ 24),
      last_and_above w (2 ^ 16),
      last_and_above w (2 ^ 8),
    ) first

-- ---- from bytes to their word and back

module _ (b above : ℕ) (h : b < 256) where
  last : (b + 256 * above) % 256 ≡ b
  last = omega arith

  rest : (b + 256 * above) / 256 ≡ above
  rest = omega arith

-- one byte further: what is above w / n is known
further : (w n b above : ℕ) → b < 256 → w / n ≡ b + 256 * above → (w / n % 256 ≡ b) × (w / (n * 256) ≡ above)
further w n b above h e = (rw e (last b above h), sym (div-div-eq-div-mul w n 256) ∙ rw e (rest b above h))

front : (s : List ℕ) → 8 ≤ length s →
    take 8 s ≡ byte_at s 0 ∷ byte_at s 1 ∷ byte_at s 2 ∷ byte_at s 3 ∷ byte_at s 4 ∷ byte_at s 5 ∷ byte_at s 6 ∷ byte_at s 7 ∷ []
front s h =
    let place : (k : ℕ) → k < 8 → take (suc k) s ≡ take k s ++ (byte_at s k ∷ []) = λ k below. take-suc s k 0 (omega arith) in
    place 7 (omega arith)
    ∙ simp (place 6 (omega arith), place 5 (omega arith), place 4 (omega arith), place 3 (omega arith), place 2 (omega arith), place 1 (omega arith), place 0 (omega arith))

pub bytes_of_word : (s : List ℕ) → 8 ≤ length s → Bytes s → bytes_of (word_of s) ≡ take 8 s
unfolding bytes_of
bytes_of_word s h bytes =
    let w = word_of s in
    let d0 : w % 256 ≡ byte_at s 0 = last (byte_at s 0) _ (bytes 0) in
    let d1 = further w (2 ^ 8) (byte_at s 1) _ (bytes 1) (rest (byte_at s 0) _ (bytes 0)) in
    let d2 = further w (2 ^ 16) _ _ (bytes 2) d1.1 in
    let d3 = further w (2 ^ 24) _ _ (bytes 3) d2.1 in
    let d4 = further w (2 ^ 32) _ _ (bytes 4) d3.1 in
    let d5 = further w (2 ^ 40) _ _ (bytes 5) d4.1 in
    let d6 = further w (2 ^ 48) _ _ (bytes 6) d5.1 in
    let d7 : w / 2 ^ 56 % 256 ≡ byte_at s 7 = rw d6.1 (omega (arith, bytes 7)) in
    simp (d7, d6.0, d5.0, d4.0, d3.0, d2.0, d1.0, d0) (sym (front s h))
