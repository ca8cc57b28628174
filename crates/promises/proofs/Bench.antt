-- Each public call of the crate `bench` promises one outcome: its contract gives it by a definition of its arguments.
use mathlib.Core.Path.{sym, ◌∙◌}
use mathlib.Core.List.{List}
use lib.Ieee.{Float}
use Rattle.promises.specs.OneOutcome.{OneResult, OneOutcome}
use Rattle.promises.proofs.BothLists.{both_lists}
use Rattle.bench.proofs.bench_exp.Kinds as bench_exp_kinds
use Rattle.bench.proofs.bench_exp.Reads as bench_exp_reads
use Rattle.bench.proofs.bench_ln.Kinds as bench_ln_kinds
use Rattle.bench.proofs.bench_ln.Reads as bench_ln_reads
use Rattle.bench.proofs.bench_root.Kinds as bench_root_kinds
use Rattle.bench.proofs.bench_root.Reads as bench_root_reads
use Rattle.bench.proofs.bench_pressure.Kinds as bench_pressure_kinds
use Rattle.bench.proofs.bench_pressure.Reads as bench_pressure_reads
use Rattle.bench.proofs.bench_entropy.Kinds as bench_entropy_kinds
use Rattle.bench.proofs.bench_entropy.Reads as bench_entropy_reads
use Rattle.bench.proofs.bench_isobaric.Kinds as bench_isobaric_kinds
use Rattle.bench.proofs.bench_isobaric.Reads as bench_isobaric_reads
use Rattle.bench.proofs.bench_sound_speed.Kinds as bench_sound_speed_kinds
use Rattle.bench.proofs.bench_sound_speed.Reads as bench_sound_speed_reads
use Rattle.bench.proofs.bench_isotherm.Kinds as bench_isotherm_kinds
use Rattle.bench.proofs.bench_isotherm.Reads as bench_isotherm_reads
use Rattle.bench.proofs.bench_plain.Kinds as bench_plain_kinds
use Rattle.bench.proofs.bench_plain.Reads as bench_plain_reads
use Rattle.bench.proofs.bench_plain_code.Kinds as bench_plain_code_kinds
use Rattle.bench.proofs.bench_plain_code.Reads as bench_plain_code_reads
use Rattle.bench.proofs.bench_plain_word.Kinds as bench_plain_word_kinds
use Rattle.bench.proofs.bench_plain_word.Reads as bench_plain_word_reads
use Rattle.bench.proofs.bench_prepare.Kinds as bench_prepare_kinds
use Rattle.bench.proofs.bench_prepare.Reads as bench_prepare_reads
use Rattle.bench.proofs.bench_quick.Kinds as bench_quick_kinds
use Rattle.bench.proofs.bench_quick.Reads as bench_quick_reads
use Rattle.bench.proofs.bench_quick_code.Kinds as bench_quick_code_kinds
use Rattle.bench.proofs.bench_quick_code.Reads as bench_quick_code_reads
use Rattle.bench.proofs.bench_quick_word.Kinds as bench_quick_word_kinds
use Rattle.bench.proofs.bench_quick_word.Reads as bench_quick_word_reads

pub bench_exp_one : OneResult _ bench_exp_kinds.ps bench_exp_kinds.r bench_exp_reads.Learnt
bench_exp_one κs a x y e f p q = p ∙ sym q

pub bench_ln_one : OneResult _ bench_ln_kinds.ps bench_ln_kinds.r bench_ln_reads.Learnt
bench_ln_one κs a x y e f p q = p ∙ sym q

pub bench_root_one : OneResult _ bench_root_kinds.ps bench_root_kinds.r bench_root_reads.Learnt
bench_root_one κs a x y e f p q = p ∙ sym q

pub bench_pressure_one : OneResult _ bench_pressure_kinds.ps bench_pressure_kinds.r bench_pressure_reads.Learnt
bench_pressure_one κs a x y e f p q = p ∙ sym q

pub bench_entropy_one : OneResult _ bench_entropy_kinds.ps bench_entropy_kinds.r bench_entropy_reads.Learnt
bench_entropy_one κs a x y e f p q = p ∙ sym q

pub bench_isobaric_one : OneResult _ bench_isobaric_kinds.ps bench_isobaric_kinds.r bench_isobaric_reads.Learnt
bench_isobaric_one κs a x y e f p q = p ∙ sym q

pub bench_sound_speed_one : OneResult _ bench_sound_speed_kinds.ps bench_sound_speed_kinds.r bench_sound_speed_reads.Learnt
bench_sound_speed_one κs a x y e f p q = p ∙ sym q

pub bench_isotherm_one : OneResult _ bench_isotherm_kinds.ps bench_isotherm_kinds.r bench_isotherm_reads.Learnt
bench_isotherm_one κs a x y e f p q = p ∙ sym q

pub bench_plain_one : OneResult _ bench_plain_kinds.ps bench_plain_kinds.r bench_plain_reads.Learnt
bench_plain_one κs a x y e f p q = p ∙ sym q

pub bench_plain_code_one : OneResult _ bench_plain_code_kinds.ps bench_plain_code_kinds.r bench_plain_code_reads.Learnt
bench_plain_code_one κs a x y e f p q = p ∙ sym q

pub bench_plain_word_one : OneResult _ bench_plain_word_kinds.ps bench_plain_word_kinds.r bench_plain_word_reads.Learnt
bench_plain_word_one κs a x y e f p q = p ∙ sym q

pub bench_quick_one : OneResult _ bench_quick_kinds.ps bench_quick_kinds.r bench_quick_reads.Learnt
bench_quick_one κs a x y e f p q = p ∙ sym q

pub bench_quick_code_one : OneResult _ bench_quick_code_kinds.ps bench_quick_code_kinds.r bench_quick_code_reads.Learnt
bench_quick_code_one κs a x y e f p q = p ∙ sym q

pub bench_quick_word_one : OneResult _ bench_quick_word_kinds.ps bench_quick_word_kinds.r bench_quick_word_reads.Learnt
bench_quick_word_one κs a x y e f p q = p ∙ sym q

-- both lists as well
pub bench_prepare_one :
    OneOutcome _ bench_prepare_kinds.ps bench_prepare_kinds.r (List Float × List Float) (λ κs e. (e.1.1.1.0.now, e.1.1.1.1.0.now)) bench_prepare_reads.Learnt
bench_prepare_one κs a x y e f p q = both_lists p q
