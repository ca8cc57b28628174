-- `Lists::prepare_for` keeps the type's fact: the lists serve what they were prepared for. Assumes nothing.
use Rattle.fluids.specs.Entries.{fluid_numbered}
use Rattle.probe_replies.proofs.Served.{prepared_kept}
use Rattle.probe_replies.proofs.searches.Lists.prepare_for.Goals as goal

pub invariant_of-self : goal.invariant_of-self
invariant_of-self c =
    let (outcome, greatest, least) = c.prepare.ensures in
    let (places, serves) = c.args.self.now.serving in
    record { serving = prepared_kept (fluid_numbered c.args.asked.fluid) _ _ _ _ _ _ _ places c.number-t.ensures c.own_top-c.ensures greatest least }
