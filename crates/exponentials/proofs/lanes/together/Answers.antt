-- `together` meets its contract: place by place its three parts are those of exp. Assumes nothing.
use mathlib.Core.Path.{◌≡◌, sym, ◌∙◌}
use mathlib.Core.List.{map}
use lib.ListN.{length, length-map}
use lib.Seq.{ext_get_or}
use lib.Ieee.{nan}
use Rattle.exponentials.specs.Exp.{exp_of}
use Rattle.arithmetic.specs.Lanes.{lane}
use Rattle.exponentials.proofs.ExpWorked.{exp_worked, exp_at}
use borrow.Author.Rules.{rules}
use Rattle.exponentials.proofs.lanes.together.Goals as goal

pub returns : goal.returns
returns g c =
    let full : length c.all_finished.result ≡ g.row.N = search rules in
    let given : length c.args.x ≡ g.row.N = search rules in
    ext_get_or nan c.all_finished.result (map exp_of c.args.x) (full ∙ sym (length-map c.args.x exp_of ∙ given)) (λ i p.
    c.all_finished.ensures i (rw full at p)
    ∙ exp_worked (lane c.args.x i) (lane c.all_scaled.result i) (lane c.all_steps.result i) (c.all_scaled.ensures i (rw full at p)) (c.all_steps.ensures i (rw full at p))
    ∙ sym (exp_at c.args.x i))
