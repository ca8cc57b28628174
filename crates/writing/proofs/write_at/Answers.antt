-- `write_at` meets its contract, by whether there is room. Assumes nothing.
use mathlib.Core.Path.{sym, ◌∙◌, ap}
use mathlib.Core.List.{List}
use Prim.Native.Nat.{ℕ}
use borrow.Author.Tests.{leb-true}
use Rattle.writing.proofs.Placing.{with_room, without_room, record_placed}
use Rattle.writing.proofs.write_at.Goals as goal

pub returns-then-not-fits : goal.returns-then-not-fits
returns-then-not-fits c = sym (without_room _ _ _ _ _ _ (sym c.fits.ensures ∙ c.if-not-fits.true))

pub returns : goal.returns
returns c =
    let granted = sym c.fits.ensures ∙ c.if-not-fits.false in
    let room = leb-true _ _ granted in
    ap (λ (l : List ℕ). (0, l)) (record_placed c.args.kind c.args.fluid c.args.first c.args.second c.args.buffer.now c.args.place _ room c.put_record.ensures)
    ∙ sym (with_room _ _ _ _ _ _ granted)
