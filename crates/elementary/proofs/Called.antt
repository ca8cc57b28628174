-- A number that a call of an elementary function hands out is finite: only a finite worked value is.
use lib.Ieee.{Float}
use lib.Ieee.Scale.{finite}
use Rattle.refusals.specs.declared.Refusal.TheVariants.{InputNotFinite}
use Rattle.arithmetic.specs.Answered.{answer_from}
use Rattle.arithmetic.proofs.Answered.{HandsOutFinite, answer_from_hands_out_finite, need_hands_out_finite}
use Rattle.elementary.specs.Calls.{called_of}

pub called_hands_out_finite : (x v : Float) → HandsOutFinite (called_of x v)
called_hands_out_finite x v = need_hands_out_finite (finite x) InputNotFinite (answer_from v) (answer_from_hands_out_finite v)
