-- 01's sample: the bytes of its `states.rec` and what is printed for them, by computing.
use mathlib.Core.Path.{◌≡◌, refl}
use mathlib.Core.List.{List, [], ◌∷◌, ◌++◌}
use Prim.Native.Nat.{ℕ, zero, suc}
use lib.Ieee.{nan, binary64, to_bits, add, sub, mul, div, neg, of_int, round, of_bits, le, lt, eq}
use Rattle.words.specs.Word.{bytes_of}
use Rattle.arithmetic.specs.Checked.{real, within, minus, ◌▷◌, ◌⊕◌, ◌⊖◌, ◌⊗◌, ◌⊘◌}
use Rattle.exponentials.specs.Exp.{exp_steps, squared, exp_work, exp_of}
use Rattle.logarithms.specs.Ln.{m_of, e_of, ln_steps, ln_work, ln_of}
use Rattle.elementary.specs.Power.{◌↑◌}
use Rattle.fluids.specs.R245ca.{r245ca}
use Rattle.fluids.specs.Entries.{entry_of, letter_of, fluid_lettered}
use Rattle.kept.specs.Kept.{power_at, bell_at, kept_of}
use Rattle.sums.specs.Rows.{x_at, row_at}
use Rattle.sums.specs.Sums.{row_first, sums_first, row_of, sums_to, sums_at}
use Rattle.equation.specs.State.{state_of, pressure_value}
use Rattle.properties.specs.Calls.{worked_density, pressure_of}
use Rattle.inputs.specs.Inputs.{state_permit}
use Rattle.lines.specs.Letters.{bytes}
use Rattle.records.specs.Record.{kind_letter, kind_lettered, carried, numbers_of, of_fluid, marked_of, record_of}
use Rattle.questions.specs.Asked.{question_of, answer_of}
use Rattle.records.specs.Run.{record_at, gathered}
use Rattle.lines.specs.Text.{glyph_of, digits_of, width_of, decimal_of}
use Rattle.lines.specs.Lines.{header_text, mark_text, dashes, answer_text, line_of, lines_up_to, lines_of, text_of}

abbrev pub zeros : ℕ → List ℕ
zeros zero = []
zeros (suc k) = 0 ∷ zeros k

-- TD 250, 0; TN; TD NaN, 1; and five bytes more
abbrev pub first : List ℕ
first = bytes "TD" ++ bytes_of (to_bits binary64 (real 250)) ++ bytes_of (to_bits binary64 (real 0))

abbrev pub second : List ℕ
second = bytes "TN" ++ zeros 16

abbrev pub third : List ℕ
third = bytes "TD" ++ bytes_of (to_bits binary64 nan) ++ bytes_of (to_bits binary64 (real 1))

abbrev pub fourth : List ℕ
fourth = bytes "TD" ++ zeros 3

pub sample_printed :
    text_of (first ++ (second ++ (third ++ fourth)))
    ≡ bytes "n mark code bits\n1 TD 0 0000000000000000\n2 TN 1 ----------------\n3 TD 2 ----------------\n4 -- 15 ----------------\n"
unfolding
    text_of header_text lines_of lines_up_to gathered record_at line_of mark_text answer_text dashes decimal_of width_of digits_of glyph_of
    answer_of question_of record_of marked_of of_fluid fluid_lettered letter_of kind_lettered kind_letter numbers_of carried bytes_of
    pressure_of state_permit worked_density pressure_value state_of kept_of sums_at sums_to sums_first row_first row_of row_at x_at bell_at
    power_at ◌↑◌ entry_of r245ca ln_of ln_work ln_steps m_of e_of exp_of exp_work exp_steps squared within minus ◌▷◌ ◌⊕◌ ◌⊖◌ ◌⊗◌
    ◌⊘◌ add sub mul div neg of_int round of_bits to_bits le lt eq
sample_printed = refl
