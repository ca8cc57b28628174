-- A table in two halves of seven places: what holds of both halves holds of it.
use mathlib.Core.Path.{◌≡◌, sym, ◌∙◌, ap, subst}
use mathlib.Core.List.{List, ◌++◌}
use Prim.Native.Nat.{ℕ, ◌+◌, ◌<◌, ◌-◌}
use native.Mathlib.Omega.{arith}
use borrow.Author.Tests.{ltb-true, ltb-false}
use lib.Dec.{ltb}
use lib.ListN.{length, get_or-append}
use lib.Seq.{get_or-append-add}
use lib.Ieee.{Float, nan}
use Rattle.arithmetic.specs.Lanes.{AtEach, lane}
use Rattle.refusals.proofs.Tests.{by}

module _ (first second : List Float) (seven : length first ≡ 7) where
  lower : (i : ℕ) → i < 7 → lane (first ++ second) i ≡ lane first i
  lower i h = get_or-append first second nan i (rw seven h)

  upper : (j : ℕ) → lane (first ++ second) (7 + j) ≡ lane second j
  upper j = ap (λ (n : ℕ). lane (first ++ second) (n + j)) (sym seven) ∙ get_or-append-add first second j nan

  pub both : (P : ℕ → Float → Type 0) → AtEach 7 (λ j. P j (lane first j)) → AtEach 7 (λ j. P (7 + j) (lane second j)) → AtEach 14 (λ i. P i (lane (first ++ second) i))
  both P low high i h = by (ltb i 7)
      (λ t. let q = ltb-true i 7 t in subst (P i) (sym (lower i q)) (low i q))
      (λ t.
      let at : 7 + (i - 7) ≡ i = omega (arith, ltb-false i 7 t) in
      subst (λ (k : ℕ). P k (lane (first ++ second) k)) at (subst (P (7 + (i - 7))) (sym (upper (i - 7))) (high (i - 7) (omega (arith, ltb-false i 7 t)))))
