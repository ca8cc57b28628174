-- The codes of the judge and of the proposer are few: the judge's are its tests'; the proposer ends with a pair, with 20, or as one of the estimates, which never
-- end with 12.
use mathlib.Core.Path.{◌≡◌, refl, subst}
use mathlib.Core.Logic.{inl, inr}
use mathlib.Core.Bool.{Bool, true, false, not, cond}
use mathlib.Core.List.{List, [], ◌∷◌}
use Prim.Native.Nat.{ℕ}
use lib.Dec.{leb, eqb}
use lib.Ieee.{Float}
use lib.ListN.{length}
use Rattle.std.specs.Prelude.{Result, Ok, Err}
use Rattle.refusals.specs.declared.Refusal.{Refusal}
use Rattle.refusals.specs.declared.Refusal.TheVariants.{UnknownFluid}
use Rattle.refusals.specs.Answer.{Answer}
use Rattle.refusals.specs.Code.{code_of, answer_code_of, OneOf}
use Rattle.refusals.proofs.InOrder.{denied_code, by_permit, never_denied, one_of_more}
use Rattle.fluids.specs.declared.Fluid.{Fluid}
use Rattle.fluids.specs.Entries.{fluid_numbered}
use Rattle.fluids.proofs.Lettered.{unnumbered}
use Rattle.inputs.specs.Numbered.{by_name}
use Rattle.inputs.specs.Inputs.{output_tests, output_permit}
use Rattle.saturation.specs.Calls.{saturated_liquid_of, saturated_vapour_of}
use Rattle.coexistence.specs.declared.Densities.{Densities}
use Rattle.coexistence.specs.Judge.{judge_tests, judge_of}
use Rattle.coexistence.specs.Proposer.{pair, accepts, pairs_after, first_accepted, started_with, pair_of}
use Rattle.coexistence.specs.Call.{refused_with, handed_on, pair_into, saturation_of}
use Rattle.bounds.specs.Pairs.{PairCalls}
use Rattle.bounds.proofs.Among.{each_of}
use Rattle.bounds.proofs.Codes.{codes}
use Rattle.bounds.proofs.Numbered.{exactly}

-- ---- the judge

judge_code : (F : Fluid) (t l v : Float) → OneOf (answer_code_of (judge_of F t l v)) (0 ∷ 2 ∷ 3 ∷ 4 ∷ 12 ∷ 19 ∷ [])
unfolding judge_of
judge_code F t l v =
    by_permit (judge_of F t l v)
    (λ g. rw g (inl refl))
    (λ r d. rw d (inr (denied_code (2 ∷ 3 ∷ 4 ∷ 12 ∷ 19 ∷ []) (judge_tests F t l v) tt r d)))

judge_never_17 : (F : Fluid) (t l v : Float) → judge_of F t l v ≡ Err UnknownFluid → ⊥
unfolding judge_of
judge_never_17 F t l v = never_denied UnknownFluid (judge_tests F t l v) tt

-- ---- the proposer

module _ (F : Fluid) (t : Float) where
  search_code : (ds : List Densities) → OneOf (answer_code_of (first_accepted F t ds)) (0 ∷ 20 ∷ [])
  unfolding first_accepted
  search_code [] = inr (inl refl)
  search_code (d ∷ ds) = go (accepts F t d) (search_code ds)
    where
      go : (b : Bool) → OneOf (answer_code_of (first_accepted F t ds)) (0 ∷ 20 ∷ []) → OneOf (answer_code_of (cond b (Ok d) (first_accepted F t ds))) (0 ∷ 20 ∷ [])
      go true later = inl refl
      go false later = later

  abbrev OfProposer : ℕ → Type 0
  OfProposer n = OneOf n (0 ∷ 2 ∷ 3 ∷ 13 ∷ 20 ∷ [])

  started_code : (a b : Answer) → OneOf (answer_code_of a) (0 ∷ 2 ∷ 3 ∷ 13 ∷ []) → OneOf (answer_code_of b) (0 ∷ 2 ∷ 3 ∷ 13 ∷ []) → OfProposer (answer_code_of (started_with F t a b))
  started_code (Ok l) (Ok v) of-a of-b = one_of_more (0 ∷ 20 ∷ []) (0 ∷ 2 ∷ 3 ∷ 13 ∷ 20 ∷ []) tt _ (search_code (pairs_after F t (pair l v)))
  started_code (Ok l) (Err r) of-a of-b = one_of_more (0 ∷ 2 ∷ 3 ∷ 13 ∷ []) (0 ∷ 2 ∷ 3 ∷ 13 ∷ 20 ∷ []) tt (code_of r) of-b
  started_code (Err r) b of-a of-b = one_of_more (0 ∷ 2 ∷ 3 ∷ 13 ∷ []) (0 ∷ 2 ∷ 3 ∷ 13 ∷ 20 ∷ []) tt (code_of r) of-a

  proposer_code : OfProposer (answer_code_of (pair_of F t))
  unfolding pair_of
  proposer_code = started_code (saturated_liquid_of F t) (saturated_vapour_of F t) ((codes F).saturated_liquid t) ((codes F).saturated_vapour t)

  proposer_never_17 : pair_of F t ≡ Err UnknownFluid → ⊥
  proposer_never_17 e =
      each_of (λ (n : ℕ). not (eqb n 17)) (0 ∷ 2 ∷ 3 ∷ 13 ∷ 20 ∷ []) tt 17 (subst (λ (p : Result Densities Refusal). OfProposer (answer_code_of p)) e proposer_code)

  -- into an output

  abbrev OfCall : ℕ → Type 0
  OfCall n = OneOf n (0 ∷ 2 ∷ 3 ∷ 7 ∷ 13 ∷ 17 ∷ 20 ∷ [])

  handed_code : (p : Result Densities Refusal) (out : List ℕ) → OfProposer (answer_code_of p) → OfCall (handed_on p out).0
  handed_code (Ok d) out of-p = inl refl
  handed_code (Err r) out of-p = one_of_more (0 ∷ 2 ∷ 3 ∷ 13 ∷ 20 ∷ []) (0 ∷ 2 ∷ 3 ∷ 7 ∷ 13 ∷ 17 ∷ 20 ∷ []) tt (code_of r) of-p

  into_code : (out : List ℕ) → OfCall (pair_into F t out).0
  unfolding pair_into output_permit
  into_code out =
      let room = leb 16 (length out) in
      by_permit (output_permit F t room)
      (λ g. rw g (handed_code (pair_of F t) out proposer_code))
      (λ r d. rw d (one_of_more (2 ∷ 3 ∷ 7 ∷ []) (0 ∷ 2 ∷ 3 ∷ 7 ∷ 13 ∷ 17 ∷ 20 ∷ []) tt (code_of r) (denied_code (2 ∷ 3 ∷ 7 ∷ []) (output_tests F t room) tt r d)))

-- a number names a fluid, or else it is refused with 17
call_code_lem : (n : ℕ) (t : Float) (out : List ℕ) → OneOf (saturation_of n t out).0 (0 ∷ 2 ∷ 3 ∷ 7 ∷ 13 ∷ 17 ∷ 20 ∷ [])
unfolding saturation_of
call_code_lem n t out = go (fluid_numbered n) (λ r e. unnumbered n e)
  where
    go : (named : Result Fluid Refusal) → ((r : Refusal) → named ≡ Err r → r ≡ UnknownFluid) → OneOf (by_name (refused_with out) named (λ F. pair_into F t out)).0 (0 ∷ 2 ∷ 3 ∷ 7 ∷ 13 ∷ 17 ∷ 20 ∷ [])
    go (Ok F) only = into_code F t out
    go (Err r) only = rw (only r refl) (inr (inr (inr (inr (inr (inl refl))))))

pub pair_calls : PairCalls
pair_calls = record {
  judge = judge_code;
  proposer = proposer_code;
  into = call_code_lem;
  numbered_judge = λ t l v. exactly Err (λ F. judge_of F t l v) (λ F. judge_never_17 F t l v);
  numbered_proposer = λ t. exactly Err (λ F. pair_of F t) (λ F. proposer_never_17 F t);
}
