-- The pairs of the sequence one after the other, as the code takes them: by what becomes of the first.
use mathlib.Core.Path.{◌≡◌, refl, sym, ◌∙◌, ap}
use mathlib.Core.Bool.{Bool, true, false, cond}
use mathlib.Core.List.{[]}
use Prim.Native.Nat.{ℕ, suc}
use lib.Ieee.{Float}
use Rattle.std.specs.Prelude.{Result, Ok, Err}
use Rattle.refusals.specs.declared.Refusal.{Refusal}
use Rattle.refusals.specs.declared.Refusal.TheVariants.{GaveUp}
use Rattle.refusals.specs.Answer.{Answer}
use Rattle.fluids.specs.declared.Fluid.{Fluid}
use Rattle.saturation.specs.Calls.{saturated_liquid_of, saturated_vapour_of}
use Rattle.coexistence.specs.declared.Densities.{Densities}
use Rattle.coexistence.specs.declared.proposer.Judged.{Judged}
use Rattle.coexistence.specs.declared.proposer.Judged.TheVariants.{Accepted, GoesOn, Ends}
use Rattle.coexistence.specs.Proposer.{accepts, goes_on, next_of, pairs_from, first_accepted, started_with, pair_of, judged_of}

module _ (F : Fluid) (T : Float) where
  -- what the sequence gives, n pairs more after d, by what becomes of d
  abbrev turn_of : Judged → Densities → ℕ → Result Densities Refusal
  turn_of Accepted d n = Ok d
  turn_of (GoesOn next) d n = first_accepted F T (pairs_from F T n next)
  turn_of Ends d n = Err GaveUp

  one_turn : (n : ℕ) (d : Densities) → first_accepted F T (pairs_from F T (suc n) d) ≡ turn_of (judged_of F T d) d n
  unfolding pairs_from first_accepted judged_of
  one_turn n d = go (accepts F T d) (goes_on F T d)
    where
      go : (a g : Bool) →
          cond a (Ok d) (first_accepted F T (cond g (pairs_from F T n (next_of F T d)) []))
          ≡ turn_of (cond a Accepted (cond g (GoesOn (next_of F T d)) Ends)) d n
      go true g = refl
      go false true = refl
      go false false = refl

  -- the same, by how the code judges d
  pub turn : (n m : ℕ) (d : Densities) {j : Judged} → n ≡ suc m → j ≡ judged_of F T d → turn_of j d m ≡ first_accepted F T (pairs_from F T n d)
  turn n m d e f = ap (λ (j : Judged). turn_of j d m) f ∙ sym (one_turn m d) ∙ ap (λ (k : ℕ). first_accepted F T (pairs_from F T k d)) (sym e)

  -- no pair is left
  pub none_left : (d : Densities) {n : ℕ} → n ≡ 0 → Err GaveUp ≡ first_accepted F T (pairs_from F T n d)
  unfolding pairs_from first_accepted
  none_left d e = rw e refl

  -- the proposer, by how its two estimates end
  pub begun : {liquid vapour : Answer} → liquid ≡ saturated_liquid_of F T → vapour ≡ saturated_vapour_of F T → started_with F T liquid vapour ≡ pair_of F T
  unfolding pair_of
  begun {liquid} {vapour} e f = ap (λ (a : Answer). started_with F T a vapour) e ∙ ap (started_with F T (saturated_liquid_of F T)) f
