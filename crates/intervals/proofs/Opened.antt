-- What a test computed over intervals opens: to unfold `opened` is to unfold all that its line names.
use lib.Ieee.{of_int, round, le, lt, eq, neg, add, sub, mul, div, fits, to_bits, of_bits}
use Rattle.arithmetic.specs.Checked.{minus}
use Rattle.logarithms.specs.Ln.{m_of, e_of}
use Rattle.intervals.proofs.Interval.{interval, pick, lesser, greater, hull, across, from_on, up_to, ◌▶◌, lies}
use Rattle.intervals.proofs.Sum.{◌⊞◌, ◌⊟◌, negated}
use Rattle.intervals.proofs.Product.{◌⊠◌, product_by, scaled, four_products}
use Rattle.intervals.proofs.Quotient.{◌÷◌, quotients, only_if}
use Rattle.intervals.proofs.Functions.{exp_over, exp_steps_over, squared_over, ◌⇈◌, power_over, root_over, root_steps_over}
use Rattle.intervals.proofs.Exponents.{before}
use Rattle.intervals.proofs.Logarithm.{ln_over, ln_by, ln_lowest, ln_highest, ln_between, ln_work_over, ln_steps_over}

unfoldable pub opened : Unit {0}
unfolding
    interval pick lesser greater hull across from_on up_to ◌▶◌ lies ◌⊞◌ ◌⊟◌ negated ◌⊠◌ product_by scaled four_products
    ◌÷◌ quotients only_if exp_over exp_steps_over squared_over ◌⇈◌ power_over root_over root_steps_over ln_over ln_by ln_lowest
    ln_highest ln_between before ln_work_over ln_steps_over m_of e_of minus fits to_bits of_bits of_int round le lt eq neg add
    sub mul div
opened = tt
