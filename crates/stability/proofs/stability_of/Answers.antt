-- `stability_of` meets its contract: squash goes through each operation, and is what the parts are settled by. Assumes nothing.
use Rattle.arithmetic.proofs.Operations.{operations}
use Rattle.arithmetic.proofs.Literals.{lit_1}
use Rattle.stability.specs.Stability.{«V», K, stability_of}
use Rattle.stability.proofs.stability_of.Goals as goal

pub returns : goal.returns
unfolding «V» K stability_of
returns c =
    simp (operations, c.squash-v.ensures, c.squash-k.ensures, c.q_of-q.ensures, c.i2.ensures, lit_1)
