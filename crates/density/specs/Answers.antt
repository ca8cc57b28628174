-- What an answered density and word mean: the density is that of a step, and the pressures at the step and at the next enclose P.
use Rattle.std.specs.Prelude.{◌≡◌, ℕ, Float}
use Rattle.fluids.specs.declared.Fluid.{Fluid}
use Rattle.search.specs.Plain.{end_step}
use Rattle.search.specs.Enclosed.{Encloses}
use Rattle.search.specs.declared.Word.{Word}
use Rattle.density.specs.State.{state_word_of}
use Rattle.steps.specs.Steps.{step_density_of}
use Rattle.steps.specs.Steps.{pressures_of}

pub record Answers (F : Fluid) (t P : Float) (c : ℕ) (density : Float) (word : Word) : Type 0 where
  pub step : ℕ
  pub exact : density ≡ step_density_of step
  pub named : word ≡ state_word_of F t density
  pub encloses : Encloses (pressures_of F t) P (end_step c) step
