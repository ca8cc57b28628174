-- A number of 2 or more names no fluid, and so neither does one that is cut to the greatest of 32 bits.
use mathlib.Core.Path.{◌≡◌, refl, sym, ◌∙◌}
use Prim.Native.Nat.{ℕ, ◌≤◌, ◌<◌}
use native.Mathlib.Omega.{arith}
use borrow.Author.Tests.{ne_eqb}
use Rattle.std.specs.Prelude.{min, Result, Ok, Err}
use Rattle.std.specs.Result.{OkIff, result_unwrap_or}
use Rattle.refusals.specs.declared.Refusal.TheVariants.{UnknownFluid}
use Rattle.fluids.specs.Entries.{fluid_numbered}

pub no_fluid : (n : ℕ) → 2 ≤ n → fluid_numbered n ≡ Err UnknownFluid
unfolding fluid_numbered
no_fluid n above = simp (ne_eqb n 0 (λ e. omega arith), ne_eqb n 1 (λ e. omega arith))

-- the number in 32 bits, or the greatest of them
pub in_32_bits : {E : Type 0} (n : ℕ) (fits : Result ℕ E) → OkIff fits (n < 4294967296) n →
    let cut = result_unwrap_or fits 4294967295 in (cut ≡ min n 4294967295) × (fluid_numbered cut ≡ fluid_numbered n)
in_32_bits n (Ok m) h = rw h.1 (omega (arith, h.0), refl)
in_32_bits n (Err _) h = (omega (arith, h), no_fluid _ (omega arith) ∙ sym (no_fluid n (omega (arith, h))))
