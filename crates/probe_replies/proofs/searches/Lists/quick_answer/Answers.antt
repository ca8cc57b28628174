-- `Lists::quick_answer` meets its contract: over lists that serve t the quick search ends as over the prepared ones. Assumes nothing.
use mathlib.Core.Path.{subst}
use lib.Ieee.{of_bits, binary64}
use Rattle.fluids.specs.Entries.{fluid_numbered}
use Rattle.probe_replies.specs.declared.searches.Isotherm.{Isotherm}
use Rattle.probe_replies.specs.Serving.{ServesAt}
use Rattle.probe_replies.proofs.Served.{quick_served}
use Rattle.probe_replies.proofs.searches.Lists.quick_answer.Goals as goal

pub returns : goal.returns
returns c =
    let lists = c.prepare_for.new.self in
    let (places, serves) = subst (λ (kept : Isotherm). ServesAt kept.fluid kept.bits lists.greatest lists.least) c.prepare_for.ensures lists.serving in
    rw (c.found_answer.ensures, c.quick.ensures, c.own_top-c.ensures, c.number-t.ensures)
    (quick_served (fluid_numbered c.args.fluid) (of_bits binary64 c.args.bits) c.args.p c.args.side _ _ serves)
