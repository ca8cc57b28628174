-- A promise that allows one outcome. `L` is what a call's contract tells of the arguments, the result and the parameters at
-- exit.
use Rattle.std.specs.Prelude.{◌≡◌, List, ℕ}
use borrow.Fn.Kinds.{Out, Dens, res_t, ended_of, ParamKind, ResultKind}
use contract.Lifetimes.{Lfts}
use denote.Triple.Clauses.{AtExit}

-- any two results that it allows for the same arguments are equal
abbrev pub OneResult : (n : ℕ) (ps : List (ParamKind n)) (r : ResultKind n) → Out n ps r → Type 0
OneResult n ps r L =
    (κs : Lfts n) (a : Dens κs ps) (x y : (res_t r κs).Denot) (e f : AtExit (ended_of n ps r) κs) →
    L κs a x e → L κs a y f → x ≡ y

-- and so is what lent memory holds afterwards
abbrev pub OneOutcome : (n : ℕ) (ps : List (ParamKind n)) (r : ResultKind n) (M : Type 0) → ((κs : Lfts n) → AtExit (ended_of n ps r) κs → M) → Out n ps r → Type 0
OneOutcome n ps r M memory L =
    (κs : Lfts n) (a : Dens κs ps) (x y : (res_t r κs).Denot) (e f : AtExit (ended_of n ps r) κs) →
    L κs a x e → L κs a y f → (x ≡ y) × (memory κs e ≡ memory κs f)

-- where the result is lent to be read: any two hold the same items
abbrev pub OneSlice : (n : ℕ) (ps : List (ParamKind n)) (r : ResultKind n) (A : Type 0) → ((κs : Lfts n) → (res_t r κs).Denot → List A) → Out n ps r → Type 0
OneSlice n ps r A items L =
    (κs : Lfts n) (a : Dens κs ps) (x y : (res_t r κs).Denot) (e f : AtExit (ended_of n ps r) κs) →
    L κs a x e → L κs a y f → items κs x ≡ items κs y

-- and where it is a part of bytes
abbrev pub OneBytes : (n : ℕ) (ps : List (ParamKind n)) (r : ResultKind n) → ((κs : Lfts n) → (res_t r κs).Denot → List ℕ) → Out n ps r → Type 0
OneBytes n ps r = OneSlice n ps r ℕ

-- and where it reads from what is lent to it: any two had the same, where it is known what was to be read and no read failed
abbrev pub OneReading : (n : ℕ) (ps : List (ParamKind n)) (r : ResultKind n) (M : Type 0) → ((κs : Lfts n) → Dens κs ps → Type 0) → ((κs : Lfts n) → (res_t r κs).Denot → Type 0)
    → ((κs : Lfts n) → (res_t r κs).Denot → AtExit (ended_of n ps r) κs → M) → Out n ps r → Type 0
OneReading n ps r M known read had L =
    (κs : Lfts n) (a : Dens κs ps) (x y : (res_t r κs).Denot) (e f : AtExit (ended_of n ps r) κs) →
    known κs a → read κs x → read κs y → L κs a x e → L κs a y f → had κs x e ≡ had κs y f
