-- `write` meets its contract: the call on the kind that the letter names, or 14 and the buffer as it was. Assumes nothing.
use mathlib.Core.Path.{refl, sym, ◌∙◌}
use Rattle.std.proofs.lemmas.Result.{err_from_is_err_and}
use Rattle.writing.specs.Write.{write_of}
use Rattle.writing.proofs.write.Goals as goal

pub returns-in_err-known : goal.returns-in_err-known
unfolding write_of
returns-in_err-known c =
    let p = err_from_is_err_and c.from_residual.result c.from_residual.ensures.1 in rw (p.1, p.2, sym c.in_err-known.ensures) refl

pub returns : goal.returns
unfolding write_of
returns c = c.write_of.ensures ∙ rw (sym c.in_ok-known.ensures) refl
