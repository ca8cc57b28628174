-- `bell_part` meets its contract, by the three kinds. Assumes nothing.
use mathlib.Core.Path.{sym, ap}
use mathlib.Core.Logic.{inl, inr}
use Rattle.kept.specs.Kept.{bell_at}
use Rattle.arithmetic.proofs.Operations.{squash_mul, squash_sub, ⊖_right, ⊗_left}
use Rattle.arithmetic.proofs.Literals.{lit_0, squash_0}
use Rattle.kept.proofs.bell_part.Goals as goal

pub returns-in-Plain : goal.returns-in-Plain
unfolding bell_at
returns-in-Plain c = elim c.in-Plain.is [ inl w ↦ simp (lit_0, squash_0) (sym (ap (bell_at _) w.3)) | inr w ↦ simp (lit_0, squash_0) (sym (ap (bell_at _) w.4)) ]

pub returns-in-Bell : goal.returns-in-Bell
unfolding bell_at
returns-in-Bell c = simp (squash_mul, squash_sub, ⊗_left, ⊖_right) (sym (ap (bell_at _) c.in-Bell.is))
