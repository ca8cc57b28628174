-- Each public call of the crate `lines` promises one outcome: its contract gives it by a definition of its arguments.
use mathlib.Core.Path.{sym, ◌∙◌}
use mathlib.Core.List.{List}
use Prim.Native.Nat.{ℕ}
use Rattle.promises.specs.OneOutcome.{OneResult, OneOutcome}
use Rattle.lines.proofs.header.Kinds as header_kinds
use Rattle.lines.proofs.header.Reads as header_reads
use Rattle.lines.proofs.put_lines.Kinds as put_lines_kinds
use Rattle.lines.proofs.put_lines.Reads as put_lines_reads

pub header_one : OneResult _ header_kinds.ps header_kinds.r header_reads.Learnt
header_one κs a x y e f p q = p ∙ sym q

-- the bytes as well
pub put_lines_one : OneOutcome _ put_lines_kinds.ps put_lines_kinds.r (List ℕ) (λ κs e. e.1.1.0.now) put_lines_reads.Learnt
put_lines_one κs a x y e f p q =
    let same = p.0 ∙ sym q.0 in
    (same, p.1 ∙ rw same (sym q.1))
