-- `series_of` meets its contract, curve by curve: the terms that are summed are the entry's. Assumes nothing.
use mathlib.Core.Path.{◌∙◌}
use mathlib.Core.Logic.{inl, inr}
use Rattle.arithmetic.proofs.Literals.{lit_1, squash_1}
use Rattle.saturation.specs.Estimates.{series_of}
use Rattle.saturation.proofs.Terms.{some_terms, finite_terms}
use Rattle.saturation.proofs.estimates.Theta.series_of.Goals as goal

pub sum_of-requires : goal.sum_of-requires
sum_of-requires c = finite_terms c.args.fluid c.args.curve _ c.estimate_terms-terms.ensures

pub from_first-requires : goal.from_first-requires
from_first-requires c = record {
  finite = finite_terms c.args.fluid c.args.curve _ c.estimate_terms-terms.ensures;
  some = some_terms c.args.fluid c.args.curve _ c.estimate_terms-terms.ensures;
}

pub returns-in-Liquid : goal.returns-in-Liquid
unfolding series_of
returns-in-Liquid c =
    simp (c.sum_of.ensures, c.estimate_terms-terms.ensures, c.in-Liquid.is, lit_1, squash_1)

pub returns-in-Pressure : goal.returns-in-Pressure
unfolding series_of
returns-in-Pressure c =
    c.from_first.ensures
    ∙ elim c.in-Pressure.is [
      | inl e ↦ simp (c.estimate_terms-terms.ensures, e)
      | inr e ↦ simp (c.estimate_terms-terms.ensures, e)
    ]
