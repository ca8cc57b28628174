-- Numbers that are finite, and the terms, pairs and estimates that have no others: what the contracts of formulas ask of a table.
use Rattle.std.specs.Prelude.{◌≡◌, Float}
use Rattle.arithmetic.specs.Checked.{squash}
use Rattle.fluids.specs.declared.Term.{Term}
use Rattle.fluids.specs.declared.Term.TheVariants.{Plain, Damped, Bell}
use Rattle.fluids.specs.declared.Pair.{Pair}
use Rattle.fluids.specs.declared.Estimate.{Estimate}
use Rattle.fluids.specs.declared.Estimate.TheVariants.{Alone, Raised}

-- squash leaves it as it is
abbrev pub Finite : Float → Type 0
Finite x = squash x ≡ x

abbrev pub FiniteTerm : Term → Type 0
FiniteTerm (Plain n t d) = Finite n × Finite t
FiniteTerm (Damped n t d l) = Finite n × Finite t
FiniteTerm (Bell n t d η β γ ε) = Finite n × Finite t × Finite η × Finite β × Finite γ × Finite ε

abbrev pub FinitePair : Pair → Type 0
FinitePair p = Finite p.v × Finite p.u

abbrev pub FiniteEstimate : Estimate → Type 0
FiniteEstimate (Alone n) = Finite n
FiniteEstimate (Raised n t) = Finite n × Finite t
