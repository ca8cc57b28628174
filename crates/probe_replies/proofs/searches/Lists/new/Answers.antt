-- `Lists::new` keeps the type's fact: any lists serve where no fluid is named. Assumes nothing.
use mathlib.Core.Path.{refl}
use Rattle.probe_replies.proofs.Served.{any_serve_none}
use Rattle.probe_replies.proofs.searches.Lists.new.Goals as goal

pub invariant_of-result : goal.invariant_of-result
invariant_of-result c = record { serving = any_serve_none _ _ (refl, refl) }
