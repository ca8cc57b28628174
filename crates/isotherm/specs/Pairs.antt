-- 01, the program `isotherm`: how many of the pairs of answers of the plain and the quick search differ.
use Rattle.std.specs.Prelude.{Bool, cond, ◌&&◌, List, ℕ, zero, suc, ◌+◌, ◌*◌, eqb, Float, Result}
use Rattle.refusals.specs.declared.Refusal.{Refusal}
use Rattle.arithmetic.specs.Checked.{real}
use Rattle.search.specs.declared.Side.{Side}
use Rattle.search.specs.declared.Side.TheVariants.{FromBelow, FromAbove}
use Rattle.search.specs.declared.Found.{Found}
use Rattle.density.specs.Calls.{plain_by, quick_by}
use Rattle.refusals.specs.Code.{answer_code_of}
use Rattle.outcomes.specs.Parts.{found_bits_of, found_word_of}

-- two answers are the same in code, bits and word
unfoldable pub same_of : Result Found Refusal → Result Found Refusal → Bool
same_of a b = eqb (answer_code_of a) (answer_code_of b) && eqb (found_bits_of a) (found_bits_of b) && eqb (found_word_of a) (found_word_of b)

-- 1 where the pair of answers for the fluid of the number n, at T and P from one side, differs, else 0
unfoldable pub differs_at : ℕ → Float → Float → ℕ → Side → List Float → List Float → ℕ
differs_at n T P c side G L = cond (same_of (plain_by n T P c side) (quick_by n T P c side G L)) 0 1

-- how many pairs differ, from both sides, at the first k multiples of 100,000 Pa
unfoldable pub differing : ℕ → Float → ℕ → List Float → List Float → ℕ → ℕ
differing n T c G L zero = 0
differing n T c G L (suc k) =
    let P = real (100000 * suc k) in
    differing n T c G L k + (differs_at n T P c FromBelow G L + differs_at n T P c FromAbove G L)
