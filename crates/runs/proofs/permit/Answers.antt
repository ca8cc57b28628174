-- `permit` meets its contract: its three tests in their order, eight bytes for each record tested by a quotient. Assumes nothing.
use mathlib.Core.Path.{◌≡◌, refl, sym, ◌∙◌}
use mathlib.Core.List.{[], ◌∷◌}
use Prim.Native.Nat.{ℕ, ◌*◌, ◌/◌}
use native.Mathlib.Omega.{arith}
use borrow.Author.Tests.{le-leb, lt-leb, leb-true, leb-false}
use lib.Dec.{leb}
use Rattle.refusals.specs.declared.Refusal.TheVariants.{TooShort, TooManyRecords}
use Rattle.refusals.proofs.Tests.{by}
use Rattle.refusals.proofs.InOrder.{one_test}
use Rattle.runs.specs.Answers.{permit_of}
use Rattle.runs.proofs.permit.Goals as goal

by_eights : (n room : ℕ) → leb n (room / 8) ≡ leb (8 * n) room
by_eights n room =
    by (leb n (room / 8))
    (λ e. let h = leb-true n (room / 8) e in e ∙ sym (le-leb (8 * n) room (omega arith)))
    (λ e. let h = leb-false n (room / 8) e in e ∙ sym (lt-leb (8 * n) room (omega arith)))

pub returns : goal.returns
unfolding permit_of
returns c =
    one_test ((leb (8 * c.args.count) c.args.room, TooShort) ∷ (leb c.args.count c.args.places, TooShort) ∷ []) (leb c.args.count 4096) TooManyRecords c.tested.ensures
    (one_test ((leb (8 * c.args.count) c.args.room, TooShort) ∷ []) (leb c.args.count c.args.places) TooShort c.tested-lists.ensures
    (one_test [] (leb (8 * c.args.count) c.args.room) TooShort c.tested-output.ensures refl (by_eights c.args.count c.args.room))
    refl)
    refl
