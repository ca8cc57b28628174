-- Lists kept from question to question: any lists serve where no fluid is named, a preparation makes them serve what it is asked for, and the
-- question at the front of the input is served where its two words are. Assumes nothing.
use mathlib.Core.Path.{◌≡◌, refl, sym, subst, ap, ◌∙◌}
use mathlib.Core.List.{List}
use Prim.Native.Nat.{ℕ, ◌≤◌}
use lib.Dec.{leb→le}
use native.Mathlib.Omega.{arith}
use lib.ListN.{length}
use lib.Ieee.{Float, nan}
use Rattle.std.specs.Prelude.{Result, Ok, Err}
use Rattle.refusals.specs.declared.Refusal.{Refusal}
use Rattle.refusals.proofs.Apart.{ok≢err}
use Rattle.fluids.specs.declared.Fluid.{Fluid}
use Rattle.fluids.specs.Entry.{most_cells}
use Rattle.fluids.specs.Entries.{entry_of}
use Rattle.fluids.proofs.Sound.{sound}
use Rattle.inputs.specs.Numbered.{by_name}
use Rattle.search.specs.declared.Side.{Side}
use Rattle.preparation.specs.Prepare.{greatest_after, least_after}
use Rattle.density.specs.Calls.{quick_of}
use Rattle.density.proofs.PreparedAlike.{lengths_left}
use Rattle.density.specs.Serving.{Serves}
use Rattle.density.proofs.Served.{any_serve_nan, prepared_serves}
use Rattle.outcomes.specs.Codes.{found_answer_of}
use Rattle.probe_calls.specs.Calls.{own_top}
use Rattle.probe_calls.proofs.Numbers.{no_fluid}
use Rattle.probe_replies.specs.Question.{quick_answer}
use Rattle.probe_replies.specs.Serving.{Places, ServesNamed, ServesAt}

-- ---- a search over lists that serve

pub quick_served : (named : Result Fluid Refusal) (T P : Float) (side : Side) (G L : List Float) → ServesNamed named T G L →
    found_answer_of (by_name Err named (λ F. quick_of F T P (own_top named) side G L)) ≡ quick_answer named side T P
unfolding quick_answer
quick_served (Ok F) T P side G L s = ap found_answer_of ((s F refl).alike P side)
quick_served (Err r) T P side G L s = refl

-- ---- no fluid yet

pub any_serve_none : (G L : List Float) → Places G L → ServesAt 4294967295 0 G L
any_serve_none G L places = (places, λ F e. absurd (ok≢err (sym e ∙ no_fluid 4294967295 (omega arith))))

-- ---- the lists after a preparation

top_few : (F : Fluid) → (entry_of F).top_cells ≤ most_cells
top_few F = leb→le (entry_of F).top_cells most_cells (sound F).cells

of_fluid : (F : Fluid) (T : Float) (G L : List Float) → Serves F T (entry_of F).top_cells G L → ServesNamed (Ok F) T G L
of_fluid F T G L s f e = let same : F ≡ f = cc in subst (λ (g : Fluid). Serves g T (entry_of g).top_cells G L) same s

pub prepared_kept : (named : Result Fluid Refusal) (T t : Float) (c : ℕ) (g l G L : List Float) → Places g l → t ≡ T → c ≡ own_top named →
    G ≡ by_name (λ (r : Refusal). g) named (λ F. greatest_after F t c g l) → L ≡ by_name (λ (r : Refusal). l) named (λ F. least_after F t c g l) →
    Places G L × ServesNamed named T G L
prepared_kept (Ok F) T t c g l G L (n, m) e top p q =
    let few = top_few F in
    let before = any_serve_nan F (entry_of F).top_cells nan g l refl (omega arith) (omega arith) in
    let (greatest, least) = lengths_left F t c g l in (
      (ap length p ∙ greatest ∙ n, ap length q ∙ least ∙ m),
      of_fluid F T G L
          (prepared_serves F (entry_of F).top_cells _ _ t g l G L before e
          (p ∙ ap (λ (k : ℕ). greatest_after F t k g l) top)
          (q ∙ ap (λ (k : ℕ). least_after F t k g l) top)),
    )
prepared_kept (Err r) T t c g l G L (n, m) e top p q = ((ap length p ∙ n, ap length q ∙ m), λ F e. absurd (ok≢err (sym e)))
