-- Each public call of the crate `records` promises one outcome: its contract gives it by a definition of its arguments.
use mathlib.Core.Path.{refl, sym, ◌∙◌}
use mathlib.Core.List.{List}
use Prim.Native.Nat.{ℕ}
use Rattle.promises.specs.OneOutcome.{OneResult, OneOutcome, OneBytes}
use Rattle.records.proofs.read.Kinds as read_kinds
use Rattle.records.proofs.read.Reads as read_reads
use Rattle.records.proofs.mark.U8FromKind.from.Kinds as from_kinds
use Rattle.records.proofs.mark.U8FromKind.from.Reads as from_reads
use Rattle.records.proofs.mark.KindTryFromU32.try_from.Kinds as try_from_kinds
use Rattle.records.proofs.mark.KindTryFromU32.try_from.Reads as try_from_reads
use Rattle.records.proofs.put_record.Kinds as put_record_kinds
use Rattle.records.proofs.put_record.Reads as put_record_reads
use Rattle.records.proofs.record_count.Kinds as record_count_kinds
use Rattle.records.proofs.record_count.Reads as record_count_reads
use Rattle.records.proofs.record_at.Kinds as record_at_kinds
use Rattle.records.proofs.record_at.Reads as record_at_reads

pub read_one : OneResult _ read_kinds.ps read_kinds.r read_reads.Learnt
read_one κs a x y e f p q = p ∙ sym q

pub from_one : OneResult _ from_kinds.ps from_kinds.r from_reads.Learnt
from_one κs a x y e f p q = p ∙ sym q

pub try_from_one : OneResult _ try_from_kinds.ps try_from_kinds.r try_from_reads.Learnt
try_from_one κs a x y e f p q = p ∙ sym q

-- the bytes as well
pub put_record_one : OneOutcome _ put_record_kinds.ps put_record_kinds.r (List ℕ) (λ κs e. e.1.1.1.1.0.now) put_record_reads.Learnt
put_record_one κs a x y e f p q = (refl, p ∙ sym q)

pub record_count_one : OneResult _ record_count_kinds.ps record_count_kinds.r record_count_reads.Learnt
record_count_one κs a x y e f p q = p ∙ sym q

pub record_at_one : OneBytes _ record_at_kinds.ps record_at_kinds.r (λ κs part. part.now) record_at_reads.Learnt
record_at_one κs a x y e f p q = p ∙ sym q
