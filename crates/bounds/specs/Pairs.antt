-- docs/NO-ANSWER.md on saturation pairs: the codes that the judge and the proposer can end with, whatever their inputs are; 12 is none of the
-- proposer's.
use Rattle.std.specs.Prelude.{List, [], ◌∷◌, ℕ, Float, Err}
use Rattle.refusals.specs.Code.{answer_code_of, OneOf}
use Rattle.fluids.specs.declared.Fluid.{Fluid}
use Rattle.coexistence.specs.Judge.{judge_of}
use Rattle.coexistence.specs.Proposer.{pair_of}
use Rattle.coexistence.specs.Call.{saturation_of}
use Rattle.bounds.specs.NoAnswer.{Exactly17}

pub record PairCalls : Type 0 where
  pub judge : (F : Fluid) (t l v : Float) → OneOf (answer_code_of (judge_of F t l v)) (0 ∷ 2 ∷ 3 ∷ 4 ∷ 12 ∷ 19 ∷ [])
  pub proposer : (F : Fluid) (t : Float) → OneOf (answer_code_of (pair_of F t)) (0 ∷ 2 ∷ 3 ∷ 13 ∷ 20 ∷ [])
  -- into an output, of the fluid of a number
  pub into : (n : ℕ) (t : Float) (out : List ℕ) → OneOf (saturation_of n t out).0 (0 ∷ 2 ∷ 3 ∷ 7 ∷ 13 ∷ 17 ∷ 20 ∷ [])
  -- 17 exactly if no fluid has the number
  pub numbered_judge : (t l v : Float) → Exactly17 Err (λ F. judge_of F t l v)
  pub numbered_proposer : (t : Float) → Exactly17 Err (λ F. pair_of F t)
