-- Two variants are never the same, by `cc`, which proves any equation where two meet: an absurd case that asks for one needs no law. Nor are
-- two numbers, which are compared.
use mathlib.Core.Path.{◌≡◌, sym, ◌∙◌, subst}
use mathlib.Core.Bool.{not, true≢false}
use Prim.Native.Nat.{ℕ}
use lib.Dec.{T, T_not, eqb, eqb_refl}
use Rattle.std.specs.Prelude.{Ok, Err}
use Rattle.refusals.specs.declared.Refusal.{Refusal}
use Rattle.refusals.specs.Code.{code_of}

pub ok≢err : {A : Type 0} {x : A} {r : Refusal} → Ok x ≡ Err r → ⊥
ok≢err e = true≢false (cc)

-- refusals that have two numbers: `other_code tt` of two that are written out
pub other_code : {d e : Refusal} → T (not (eqb (code_of d) (code_of e))) → d ≡ e → ⊥
other_code {d} {e} other same = T_not (eqb (code_of e) (code_of e)) (subst (λ (r : Refusal). T (not (eqb (code_of r) (code_of e)))) same other) (eqb_refl (code_of e))

-- numbers that a call does not end with both: `another_code tt` of two that are written out
pub another_code : {X : Type 0} {n a b : ℕ} → T (not (eqb a b)) → n ≡ a → n ≡ b → X
another_code {X} {n} {a} {b} other e f = absurd (T_not (eqb b b) (subst (λ (k : ℕ). T (not (eqb k b))) (sym e ∙ f) other) (eqb_refl b))
