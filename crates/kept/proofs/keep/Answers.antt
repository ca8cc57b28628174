-- `keep` meets its contract: each part is what its function ensures. Assumes nothing.
use mathlib.Core.Path.{◌≡◌, ◌∙◌, ap}
use lib.Ieee.{Float}
use Rattle.arithmetic.specs.Checked.{squash, ◌⊘◌}
use Rattle.arithmetic.proofs.Operations.{squash_over, ⊘_squashed}
use Rattle.arithmetic.proofs.Forced.{forced}
use Rattle.fluids.specs.declared.Constants.{Constants}
use Rattle.fluids.specs.Entries.{entry_of}
use Rattle.fluids.proofs.Sound.{sound}
use Rattle.kept.specs.Kept.{kept_of}
use Rattle.kept.proofs.keep.Goals as goal

pub returns : goal.returns
unfolding kept_of
returns c =
    let critical = ap (λ (k : Constants). k.critical_temperature) c.single_numbers.ensures in
    let tau : c.squash-tau.result ≡ (entry_of c.args.fluid).Tc ⊘ c.args.t =
    c.squash-tau.ensures ∙ squash_over _ _ ∙ ap (λ (z : Float). squash z ⊘ c.args.t) critical ∙ ap (λ (z : Float). z ⊘ c.args.t) (sound c.args.fluid).Tc in
    simp (forced, c.powers_at.ensures, c.bells_at.ensures, c.ln-ln_tau.ensures, tau, ⊘_squashed)
