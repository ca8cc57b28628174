-- How many digits are to be put is the measure of `put_digits`.
use Rattle.lines.proofs.text.Line.+put_digits.Given as goal

abbrev pub decreases-put_digits : goal.decreases-put_digits
decreases-put_digits l = l.k
