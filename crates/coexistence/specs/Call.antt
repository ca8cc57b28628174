-- 02, M-105: the proposer's pair into an output whose first sixteen bytes get it: the liquid's and then the vapour's density; 17, 2, 3, 7, then as the
-- proposer refuses.
use Rattle.std.specs.Prelude.{List, ◌++◌, ℕ, leb, Float, length, drop, Result, Ok, Err}
use Rattle.std.specs.Float.{binary64}
use Rattle.std.specs.Float.Ieee.{to_bits}
use Rattle.refusals.specs.declared.Refusal.{Refusal}
use Rattle.refusals.specs.Answer.{Permit}
use Rattle.refusals.specs.Code.{code_of}
use Rattle.words.specs.Word.{bytes_of}
use Rattle.fluids.specs.declared.Fluid.{Fluid}
use Rattle.inputs.specs.Inputs.{output_permit}
use Rattle.inputs.specs.Numbered.{by_number}
use Rattle.coexistence.specs.declared.Densities.{Densities}
use Rattle.coexistence.specs.Proposer.{pair_of}

-- the code, and what the output holds afterwards
abbrev pub Ended : Type 0
Ended = ℕ × List ℕ

-- a refusal leaves the output as it was
abbrev pub refused_with : List ℕ → Refusal → Ended
refused_with out r = (code_of r, out)

-- the bits of the two densities, the lowest first
abbrev pub pair_bytes : Densities → List ℕ
pair_bytes pair = bytes_of (to_bits binary64 pair.liquid) ++ bytes_of (to_bits binary64 pair.vapour)

-- they are the first sixteen bytes
abbrev pub handed_on : Result Densities Refusal → List ℕ → Ended
handed_on (Ok pair) out = (0, pair_bytes pair ++ drop 16 out)
handed_on (Err r) out = refused_with out r

abbrev pub where_granted : Permit → Result Densities Refusal → List ℕ → Ended
where_granted (Ok _) paired out = handed_on paired out
where_granted (Err r) paired out = refused_with out r

-- 7 after 3 and before 13
unfoldable pub pair_into : Fluid → Float → List ℕ → Ended
pair_into F T out = where_granted (output_permit F T (leb 16 (length out))) (pair_of F T) out

unfoldable pub saturation_of : ℕ → Float → List ℕ → Ended
saturation_of number T out = by_number (refused_with out) number (λ F. pair_into F T out)
