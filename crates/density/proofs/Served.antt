-- Any lists with the places 0 .. c serve a NaN, since every search at one is refused; and a preparation makes lists serve its temperature,
-- whatever they held before.
use mathlib.Core.Path.{◌≡◌, sym, subst}
use mathlib.Core.List.{List}
use Prim.Native.Nat.{ℕ, ◌+◌, ◌<◌}
use native.Mathlib.Omega.{arith}
use lib.ListN.{length, length-replicate}
use lib.Ieee.{Float, nan}
use Rattle.fluids.specs.declared.Fluid.{Fluid}
use Rattle.arithmetic.specs.Checked.{real}
use Rattle.preparation.specs.Prepare.{greatest_after, least_after}
use Rattle.density.specs.Serving.{zeros, Serves}
use Rattle.density.proofs.PreparedAlike.{Places, places_left, prepared_alike, nan_alike}

module _ (F : Fluid) (c : ℕ) where
  -- a number that is the same is served the same
  pub serves_at : (T x : Float) (G L : List Float) → x ≡ T → Serves F T c G L → Serves F x c G L
  serves_at T x G L e s = subst (λ (y : Float). Serves F y c G L) (sym e) s

  pub any_serve_nan : (x : Float) (G L : List Float) → x ≡ nan → c < length G → c < length L → Serves F x c G L
  any_serve_nan x G L e g l = serves_at nan x G L e (record { places_greatest = g; places_least = l; alike = nan_alike F c G L _ _ })

  zero_places : Places c (zeros c) (zeros c)
  unfolding zeros
  zero_places = let places = length-replicate (c + 1) (real 0) in record { of_greatest = omega (arith, places); of_least = omega (arith, places) }

  pub prepared_serves : (kept T t : Float) (g l G L : List Float) → Serves F kept c g l → t ≡ T → G ≡ greatest_after F t c g l → L ≡ least_after F t c g l → Serves F T c G L
  prepared_serves kept T t g l G L s e p q =
      let before : Places c g l = record { of_greatest = s.places_greatest; of_least = s.places_least } in
      let after = places_left F t c g l before in
      serves_at t T G L (sym e)
      (rw (p, q)
      (record {
        places_greatest = after.of_greatest;
        places_least = after.of_least;
        alike = prepared_alike F t c g l (zeros c) (zeros c) before zero_places;
      }))
