-- `block` lends only what its buffers hold: the replies take at most as many bytes as there is room for. Assumes nothing.
use mathlib.Core.Path.{sym}
use native.Mathlib.Omega.{arith}
use lib.Seq.{length-take-le}
use Rattle.probe_replies.proofs.Progress.{replies_inside}
use Rattle.probe.proofs.block.Goals as goal

pub slice_bounds-out-end : goal.slice_bounds-out-end
slice_bounds-out-end c =
    omega (arith, replies_inside _ _ _ _ c.put_replies-end.ensures.value c.put_replies-end.ensures.out_after)

pub slice_bounds-write_all-end : goal.slice_bounds-write_all-end
slice_bounds-write_all-end c =
    sym (length-take-le _ _ (replies_inside _ _ _ _ c.put_replies-end.ensures.value c.put_replies-end.ensures.out_after))
