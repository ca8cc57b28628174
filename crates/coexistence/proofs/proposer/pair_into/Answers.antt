-- `pair_into` meets its contract: what is denied touches nothing, and what is granted hands on the pair. Assumes nothing.
use mathlib.Core.Path.{◌≡◌, refl, sym, ◌∙◌, ap}
use mathlib.Core.List.{List}
use Prim.Native.Nat.{ℕ}
use borrow.Author.Tests.{leb-true}
use lib.Dec.{leb}
use lib.Ieee.{Float}
use lib.ListN.{length}
use Rattle.std.specs.Prelude.{Result}
use Rattle.std.proofs.lemmas.Result.{err_from_is_err_and}
use Rattle.refusals.specs.declared.Refusal.{Refusal}
use Rattle.refusals.specs.Answer.{Permit}
use Rattle.fluids.specs.declared.Fluid.{Fluid}
use Rattle.inputs.specs.Inputs.{output_permit}
use Rattle.inputs.proofs.Passed.{output_passed}
use Rattle.coexistence.specs.declared.Densities.{Densities}
use Rattle.coexistence.specs.Proposer.{pair_of}
use Rattle.coexistence.specs.Call.{where_granted, pair_into}
use Rattle.coexistence.proofs.proposer.pair_into.Goals as goal

-- by how the inputs and the proposer end
ended : (F : Fluid) (T : Float) (out : List ℕ) {permit : Permit} {paired : Result Densities Refusal} →
    permit ≡ output_permit F T (leb 16 (length out)) → paired ≡ pair_of F T → where_granted permit paired out ≡ pair_into F T out
unfolding pair_into
ended F T out {permit} {paired} e f =
    ap (λ (p : Permit). where_granted p paired out) e
    ∙ ap (λ (q : Result Densities Refusal). where_granted (output_permit F T (leb 16 (length out))) q out) f

pub put_pair-requires : goal.put_pair-requires
put_pair-requires c =
    let (number, (temperature, (room, none))) = output_passed _ _ _ (sym c.in_ok-output_inputs.ensures) in
    leb-true 16 _ room

pub returns-in_err-output_inputs : goal.returns-in_err-output_inputs
returns-in_err-output_inputs c =
    let p = err_from_is_err_and c.from_residual.result c.from_residual.ensures.1 in
    rw (p.1, p.2) (ended _ _ _ c.in_err-output_inputs.ensures refl)

pub returns-in_err-pair_of : goal.returns-in_err-pair_of
returns-in_err-pair_of c =
    let p = err_from_is_err_and c.from_residual-in_err-pair_of.result c.from_residual-in_err-pair_of.ensures.1 in
    rw (p.1, p.2) (ended _ _ _ c.in_ok-output_inputs.ensures c.in_err-pair_of.ensures)

pub returns : goal.returns
returns c =
    ap (λ (l : List ℕ). (0, l)) c.put_pair.ensures ∙ ended _ _ _ c.in_ok-output_inputs.ensures c.in_ok-pair_of.ensures
