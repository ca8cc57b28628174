-- What permitted inputs grant: each test passed; of a search or a preparation, a top of at most the most cells, and room in both lists.
use mathlib.Core.Path.{◌≡◌, sym, ap, ◌∙◌}
use mathlib.Core.Bool.{Bool, true}
use Prim.Native.Nat.{ℕ, ◌≤◌, ◌<◌}
use native.Mathlib.Omega.{arith}
use native.Mathlib.Nat.{le_refl}
use borrow.Author.Tests.{leb-true, ltb-true, le-leb}
use lib.Dec.{leb, ltb, leb→le}
use lib.Ieee.{Float}
use Rattle.std.specs.Prelude.{Ok}
use Rattle.refusals.specs.Answer.{Permit}
use Rattle.refusals.proofs.Tests.{and_passed}
use Rattle.refusals.proofs.InOrder.{AllPassed, all_passed}
use Rattle.fluids.specs.declared.Fluid.{Fluid}
use Rattle.fluids.specs.Entry.{most_cells}
use Rattle.fluids.specs.Entries.{entry_of}
use Rattle.fluids.proofs.Sound.{sound}
use Rattle.inputs.specs.Inputs.{top_test, room_of, state_tests, state_permit, saturation_tests, saturation_permit, output_tests, output_permit, search_tests, search_permit, prepare_tests, prepare_permit}

pub state_passed : (F : Fluid) (t ρ : Float) → state_permit F t ρ ≡ Ok tt → AllPassed (state_tests F t ρ)
unfolding state_permit
state_passed F t ρ ok = all_passed (state_tests F t ρ) ok

pub saturation_passed : (F : Fluid) (t : Float) → saturation_permit F t ≡ Ok tt → AllPassed (saturation_tests F t)
unfolding saturation_permit
saturation_passed F t ok = all_passed (saturation_tests F t) ok

pub output_passed : (F : Fluid) (t : Float) (room : Bool) → output_permit F t room ≡ Ok tt → AllPassed (output_tests F t room)
unfolding output_permit
output_passed F t room ok = all_passed (output_tests F t room) ok

pub search_passed : (F : Fluid) (t P : Float) (c : ℕ) (room : Bool) → search_permit F t P c room ≡ Ok tt → AllPassed (search_tests F t P c room)
unfolding search_permit
search_passed F t P c room ok = all_passed (search_tests F t P c room) ok

pub prepare_passed : (F : Fluid) (t : Float) (c : ℕ) (room : Bool) → prepare_permit F t c room ≡ Ok tt → AllPassed (prepare_tests F t c room)
unfolding prepare_permit
prepare_passed F t c room ok = all_passed (prepare_tests F t c room) ok

pub top_passed : (F : Fluid) (c : ℕ) → (top_test F c).0 ≡ true → (1 ≤ c) × (c ≤ most_cells)
top_passed F c ok =
    let (some, few) = and_passed (leb 1 c) (leb c (entry_of F).top_cells) ok in
    (leb-true 1 c some, omega (arith, leb-true c (entry_of F).top_cells few, leb→le (entry_of F).top_cells most_cells (sound F).cells))

-- the fluid's own top is permitted
pub top_permitted : (F : Fluid) → (top_test F (entry_of F).top_cells).0 ≡ true
top_permitted F = simp (le-leb 1 (entry_of F).top_cells (leb→le 1 (entry_of F).top_cells (sound F).some_cells), le-leb (entry_of F).top_cells (entry_of F).top_cells (le_refl _))

pub room_passed : (c n m : ℕ) → room_of c n m ≡ true → (c < n) × (c < m)
unfolding room_of
room_passed c n m ok =
    let (first, second) = and_passed (ltb c n) (ltb c m) ok in
    (ltb-true c n first, ltb-true c m second)

pub prepare_granted : (F : Fluid) (t : Float) (c n m : ℕ) → prepare_permit F t c (room_of c n m) ≡ Ok tt → (c ≤ most_cells) × (c < n) × (c < m)
prepare_granted F t c n m ok =
    let (number, (temperature, (top, (room, none)))) = prepare_passed F t c (room_of c n m) ok in
    let (some, few) = top_passed F c top in
    let (first, second) = room_passed c n m room in
    (few, first, second)

-- the inputs as the code works them
pub inputs_with_room : (f : Bool → Permit) (room b : Bool) (inputs x : Permit) → room ≡ b → inputs ≡ f room → inputs ≡ x → f b ≡ x
inputs_with_room f room b inputs x e i h = ap f (sym e) ∙ sym i ∙ h
