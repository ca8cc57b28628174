-- `Kind::try_from` meets its contract, letter by letter. Assumes nothing.
use mathlib.Core.Path.{refl}
use borrow.Author.Tests.{ne_eqb}
use Rattle.records.specs.Record.{kind_letter, kind_lettered}
use Rattle.records.proofs.mark.KindTryFromU32.try_from.Goals as goal

pub returns-in-68 : goal.returns-in-68
unfolding kind_letter kind_lettered
returns-in-68 c = rw c.in-68.is refl

pub returns-in-66 : goal.returns-in-66
unfolding kind_letter kind_lettered
returns-in-66 c = rw c.in-66.is refl

pub returns-in-65 : goal.returns-in-65
unfolding kind_letter kind_lettered
returns-in-65 c = rw c.in-65.is refl

pub returns-in-80 : goal.returns-in-80
unfolding kind_letter kind_lettered
returns-in-80 c = rw c.in-80.is refl

pub returns-in-78 : goal.returns-in-78
unfolding kind_letter kind_lettered
returns-in-78 c = rw c.in-78.is refl

pub returns-in_default : goal.returns-in_default
unfolding kind_letter kind_lettered
returns-in_default c =
    simp (
      ne_eqb _ _ c.in_default.in_default-own.rest.1,
      ne_eqb _ _ c.in_default.in_default-own.rest.0.1,
      ne_eqb _ _ c.in_default.in_default-own.rest.0.0.1,
      ne_eqb _ _ c.in_default.in_default-own.rest.0.0.0.1,
      ne_eqb _ _ c.in_default.in_default-own.rest.0.0.0.0.1,
    )
