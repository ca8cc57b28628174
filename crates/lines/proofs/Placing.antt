-- Texts put into a list one after the other: what a list holds after two of them is what it holds after both as one.
use mathlib.Core.Path.{◌≡◌, sym, ◌∙◌, ap, subst}
use mathlib.Core.List.{List, [], ◌++◌, append_assoc}
use Prim.Native.Nat.{ℕ, ◌+◌, ◌≤◌}
use native.Mathlib.Omega.{arith}
use lib.ListN.{length, take, drop, length-append, take-append-drop}
use lib.Seq.{drop-drop}
use Rattle.words.specs.Word.{placed}
use Rattle.words.proofs.Placed.{placed_length, placed_upto, placed_after}
use Rattle.lines.specs.Text.{Put}

module _ (at : ℕ) (t s : List ℕ) (fits : at + length t ≤ length s) where
  placed_more : (u : List ℕ) → at + length t + length u ≤ length s → placed (at + length t) u (placed at t s) ≡ placed at (t ++ u) s
  placed_more u h =
      let total : at + length t + length u ≡ at + length (t ++ u) = rw (length-append t u) (omega arith) in
      let back : drop (at + length t + length u) (placed at t s) ≡ drop (at + length (t ++ u)) s =
      sym (drop-drop (length u) (at + length t) (placed at t s))
      ∙ ap (drop (length u)) (placed_after at t s fits)
      ∙ drop-drop (length u) (at + length t) s
      ∙ ap (λ (k : ℕ). drop k s) total in
      simp (placed_upto at t s fits, back, append_assoc)

-- nothing was put
pub nothing : (at : ℕ) (s : List ℕ) → Put at [] s at s
nothing at s =
    let same : at ≡ at + 0 = omega arith in
    record { ends = same; whole = sym (take-append-drop at s) ∙ ap (λ (k : ℕ). take at s ++ drop k s) same }

-- one text, then another
pub then : {at m r : ℕ} {t u s s₁ s₂ : List ℕ} → Put at t s m s₁ → Put m u s₁ r s₂ → at + (length t + length u) ≤ length s → Put at (t ++ u) s r s₂
then {at} {m} {r} {t} {u} {s} {s₁} {s₂} p q fits =
    let first : placed m u s₁ ≡ placed (at + length t) u (placed at t s) =
    ap (λ (k : ℕ). placed k u s₁) p.ends ∙ ap (λ (l : List ℕ). placed (at + length t) u l) p.whole in
    let total : at + length t + length u ≡ at + length (t ++ u) = rw (length-append t u) (omega arith) in
    record {
      ends = q.ends ∙ ap (λ (k : ℕ). k + length u) p.ends ∙ total;
      whole = q.whole ∙ first ∙ placed_more at t s (omega arith) u (omega arith);
    }

-- the list stays as long as it was
pub put_length : {at r : ℕ} {t s now : List ℕ} → Put at t s r now → at + length t ≤ length s → length now ≡ length s
put_length {at} {r} {t} {s} p h = ap length p.whole ∙ placed_length at t s h

-- a text by another name
pub as_text : {at r : ℕ} {t u s now : List ℕ} → t ≡ u → Put at t s r now → Put at u s r now
as_text {at} {r} {t} {u} {s} {now} e p = subst (λ (l : List ℕ). Put at l s r now) e p
