-- `value_of` meets its contract, curve by curve: squash goes through each operation. Assumes nothing.
use mathlib.Core.Path.{sym, ◌∙◌}
use Rattle.arithmetic.proofs.Operations.{squash_mul, squash_over}
use Rattle.arithmetic.proofs.Forced.{forced}
use Rattle.exponentials.proofs.ExpRange.{exp_squash, exp_squashed}
use Rattle.fluids.specs.Entries.{entry_of}
use Rattle.fluids.proofs.Sound.{sound, finite_squash}
use Rattle.saturation.specs.Estimates.{pressure_estimate, liquid_estimate, vapour_estimate}
use Rattle.saturation.proofs.estimates.value_of.Goals as goal

pub returns-in-Pressure : goal.returns-in-Pressure
unfolding pressure_estimate
returns-in-Pressure c =
    simp (
      squash_mul,
      squash_over,
      c.exp.ensures ∙ sym (exp_squash _),
      exp_squashed,
      c.series_of-series.ensures,
      c.at.ensures,
      c.single_numbers-numbers.ensures,
      (sound c.args.fluid).pc,
      (sound c.args.fluid).Tc,
      c.in-Pressure.is,
      forced,
    )

pub returns-in-Liquid : goal.returns-in-Liquid
unfolding liquid_estimate
returns-in-Liquid c =
    simp (
      squash_mul,
      c.series_of-series.ensures,
      c.at.ensures,
      c.single_numbers-numbers.ensures,
      finite_squash (entry_of c.args.fluid).ρc (sound c.args.fluid).ρc,
      c.in-Liquid.is,
      forced,
    )

pub returns-in-Vapour : goal.returns-in-Vapour
unfolding vapour_estimate
returns-in-Vapour c =
    simp (
      squash_mul,
      c.exp-in-Vapour.ensures ∙ sym (exp_squash _),
      exp_squashed,
      c.series_of-series.ensures,
      c.at.ensures,
      c.single_numbers-numbers.ensures,
      finite_squash (entry_of c.args.fluid).ρc (sound c.args.fluid).ρc,
      c.in-Vapour.is,
      forced,
    )
