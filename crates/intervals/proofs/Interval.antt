-- Intervals with binary64 ends. `In I x` says that x is finite and lies in I; of `unknown` it says nothing.
use mathlib.Core.Path.{◌≡◌, refl}
use mathlib.Core.Logic.{◌⊎◌, inl, inr}
use mathlib.Core.Bool.{Bool, true, false, ◌&&◌}
use lib.Dec.{T}
use lib.Ieee.{Float, nan, inf, fin, le}
use lib.Ieee.Fits.{and_l, and_r}
use lib.Ieee.Scale.{finite}
use Rattle.arithmetic.specs.Checked.{squash}
use Rattle.arithmetic.proofs.Within.{between_finite}
use Rattle.intervals.proofs.Fractions.{Le, order_of_test, test_of_order, Le_total, Le_trans, Le_refl}

pub data Interval : Type 0 where
  unknown : Interval
  ends : Float → Float → Interval

-- l ≤ x ≤ h, all three finite
pub record Inside (l h x : Float) : Type 0 where
  pub low : T (finite l)
  pub high : T (finite h)
  pub here : T (finite x)
  pub above : Le l x
  pub below : Le x h

pub data In : Interval → Float → Type 0 where
  anything : {x : Float} → In unknown x
  inside : {l h x : Float} → Inside l h x → In (ends l h) x

abbrev pub known : Interval → Bool
known unknown = false
known (ends l h) = true

-- what lies in a known interval is finite
pub in_known : {I : Interval} {x : Float} → T (known I) → In I x → T (finite x)
in_known t (inside a) = a.here
in_known t anything = absurd t

-- ---- an interval from its ends
unfoldable pub interval : Float → Float → Interval
interval nan h = unknown
interval (inf s) h = unknown
interval (fin s m e) nan = unknown
interval (fin s m e) (inf t) = unknown
interval (fin s m e) (fin t n d) = ends (fin s m e) (fin t n d)

pub interval_holds : (l h : Float) {x : Float} → T (finite x) → (T (finite l) → Le l x) → (T (finite h) → Le x h) → In (interval l h) x
unfolding interval
interval_holds nan h p f g = anything
interval_holds (inf s) h p f g = anything
interval_holds (fin s m e) nan p f g = anything
interval_holds (fin s m e) (inf t) p f g = anything
interval_holds (fin s m e) (fin t n d) p f g = inside (record { low = tt; high = tt; here = p; above = f tt; below = g tt })

-- by the tests that a range makes
pub tested : (l h x : Float) → T (finite l) → T (finite h) → T (le l x) → T (le x h) → In (interval l h) x
tested l h x p q a b =
    let f = between_finite l x h p q a b in
    interval_holds l h f (λ z. order_of_test l x p f a) (λ z. order_of_test x h f q b)

-- one value
abbrev pub point : Float → Interval
point x = interval x x

pub at : (x : Float) → In (point x) x
unfolding interval
at nan = anything
at (inf s) = anything
at (fin s m e) = interval_holds (fin s m e) (fin s m e) tt (λ z. Le_refl (fin s m e)) (λ z. Le_refl (fin s m e))

-- ---- squash
squash_here : {I : Interval} (x : Float) → T (finite x) → In I x → In I (squash x)
squash_here {I = I} nan p h = elim p [ ]
squash_here {I = I} (inf _) p h = elim p [ ]
squash_here (fin s m e) p h = h

pub squash_in : {I : Interval} {x : Float} → In I x → In I (squash x)
squash_in anything = anything
squash_in {x = x} (inside a) = squash_here x a.here (inside a)

pub unsquash_in : {I : Interval} (x : Float) → In I (squash x) → In I x
unsquash_in nan a = a
unsquash_in (inf s) anything = anything
unsquash_in (inf s) (inside a) = absurd a.here
unsquash_in (fin s m e) a = a

-- a result that lies between two others, by the tests
pub result_in : (l h x : Float) → (T (finite l) → T (finite h) → T (le l x) × T (le x h)) → In (interval l h) (squash x)
unfolding interval
result_in nan h x g = anything
result_in (inf s) h x g = anything
result_in (fin s m e) nan x g = anything
result_in (fin s m e) (inf t) x g = anything
result_in (fin s m e) (fin t n d) x g =
    let (a, b) = g tt tt in
    squash_in (unfold interval in tested (fin s m e) (fin t n d) x tt tt a b)

-- ---- the lesser and the greater of two
unfoldable pub pick : Bool → Float → Float → Float
pick true a b = b
pick false a b = a

unfoldable pub lesser : Float → Float → Float
lesser a b = pick (le b a) a b

unfoldable pub greater : Float → Float → Float
greater a b = pick (le a b) a b

module _ (a b : Float) where
  pub lesser_left : T (finite a) → T (finite (lesser a b)) → Le (lesser a b) a
  unfolding lesser pick
  lesser_left p = go (le b a) (order_of_test b a)
    where
      go : (t : Bool) → (T (finite b) → T (finite a) → T t → Le b a) → T (finite (pick t a b)) → Le (pick t a b) a
      go true h q = h q p tt
      go false h q = Le_refl a

  pub lesser_right : T (finite b) → T (finite (lesser a b)) → Le (lesser a b) b
  unfolding lesser pick
  lesser_right p = go (le b a) (test_of_order b a)
    where
      go : (t : Bool) → (T (finite b) → T (finite a) → Le b a → T t) → T (finite (pick t a b)) → Le (pick t a b) b
      go true h q = Le_refl b
      go false h q = Le_total b a (λ (g : Le b a). h p q g)

  pub greater_left : T (finite a) → T (finite (greater a b)) → Le a (greater a b)
  unfolding greater pick
  greater_left p = go (le a b) (order_of_test a b)
    where
      go : (t : Bool) → (T (finite a) → T (finite b) → T t → Le a b) → T (finite (pick t a b)) → Le a (pick t a b)
      go true h q = h p q tt
      go false h q = Le_refl a

  pub greater_right : T (finite b) → T (finite (greater a b)) → Le b (greater a b)
  unfolding greater pick
  greater_right p = go (le a b) (test_of_order a b)
    where
      go : (t : Bool) → (T (finite a) → T (finite b) → Le a b → T t) → T (finite (pick t a b)) → Le b (pick t a b)
      go true h q = Le_refl b
      go false h q = Le_total a b (λ (g : Le a b). h q p g)

-- ---- the hull of two intervals, and of two values
unfoldable pub hull : Interval → Interval → Interval
hull unknown J = unknown
hull (ends l h) unknown = unknown
hull (ends l h) (ends k j) = interval (lesser l k) (greater h j)

pub hull_left : {I : Interval} {x : Float} (J : Interval) → In I x → In (hull I J) x
unfolding hull
hull_left J anything = anything
hull_left unknown (inside a) = anything
hull_left {x = x} (ends k j) (inside {l} {h} a) =
    interval_holds (lesser l k) (greater h j) a.here
    (λ p. Le_trans (lesser l k) l x (lesser_left l k a.low p) a.above)
    (λ p. Le_trans x h (greater h j) a.below (greater_left h j a.high p))

pub hull_right : {J : Interval} {x : Float} (I : Interval) → In J x → In (hull I J) x
unfolding hull
hull_right unknown b = anything
hull_right (ends l h) anything = anything
hull_right {x = x} (ends l h) (inside {l = k} {h = j} b) =
    interval_holds (lesser l k) (greater h j) b.here
    (λ p. Le_trans (lesser l k) k x (lesser_right l k b.low p) b.above)
    (λ p. Le_trans x j (greater h j) b.below (greater_right h j b.high p))

unfoldable pub across : Float → Float → Interval
across a b = hull (point a) (point b)

pub across_left : (a b : Float) → In (across a b) a
unfolding across
across_left a b = hull_left (point b) (at a)

pub across_right : (a b : Float) → In (across a b) b
unfolding across
across_right a b = hull_right (point a) (at b)

-- z lies between a and b, one way or the other
abbrev pub Amid : Float → Float → Float → Type 0
Amid a b z = (T (le a z) × T (le z b)) ⊎ (T (le b z) × T (le z a))

module _ {l h : Float} (a b z : Float) (p : Inside l h a) (q : Inside l h b) where
  between_two : T (le a z) → T (le z b) → In (ends l h) (squash z)
  between_two u v =
      let f = between_finite a z b p.here q.here u v in
      squash_in {x = z} (inside (record {
        low = p.low;
        high = p.high;
        here = f;
        above = Le_trans l a z p.above (order_of_test a z p.here f u);
        below = Le_trans z b h (order_of_test z b f q.here v) q.below;
      }))

-- so an interval that holds a and b holds z
pub amid_in : {I : Interval} {a b : Float} (z : Float) → In I a → In I b → Amid a b z → In I (squash z)
amid_in z anything q m = anything
amid_in {a = a} {b = b} z (inside p) (inside q) (inl (u, v)) = between_two a b z p q u v
amid_in {a = a} {b = b} z (inside p) (inside q) (inr (u, v)) = between_two b a z q p u v

-- ---- the part from c up
unfoldable pub from_on : Float → Interval → Interval
from_on c unknown = unknown
from_on c (ends l h) = interval (greater l c) h

pub from_on_in : {I : Interval} (c x : Float) → T (finite c) → T (le c x) → In I x → In (from_on c I) x
unfolding from_on greater pick
from_on_in c x f g anything = anything
from_on_in c x f g (inside {l} {h} a) = interval_holds (greater l c) h a.here (λ p. go (le l c)) (λ p. a.below)
  where
    go : (t : Bool) → Le (pick t l c) x
    go true = order_of_test c x f a.here g
    go false = a.above

-- ---- the part up to c
unfoldable pub up_to : Float → Interval → Interval
up_to c unknown = unknown
up_to c (ends l h) = interval l (lesser h c)

pub up_to_in : {I : Interval} (c x : Float) → T (finite c) → T (le x c) → In I x → In (up_to c I) x
unfolding up_to lesser pick
up_to_in c x f g anything = anything
up_to_in c x f g (inside {l} {h} a) = interval_holds l (lesser h c) a.here (λ p. a.above) (λ p. go (le c h))
  where
    go : (t : Bool) → Le x (pick t h c)
    go true = order_of_test x c a.here f g
    go false = a.below

-- x ≤ c or c ≤ x
pub either_side : {X : Type 0} (x c : Float) → T (finite x) → T (finite c) → (T (le x c) → X) → (T (le c x) → X) → X
either_side {X} x c p q low high = go (le x c) (λ t. t) (λ n. test_of_order c x q p (Le_total x c (λ (g : Le x c). n (test_of_order x c p q g))))
  where
    go : (b : Bool) → (T b → T (le x c)) → ((T b → ⊥) → T (le c x)) → X
    go true k n = low (k tt)
    go false k n = high (n (λ t. t))

-- ---- computed first: f I, for an interval that f uses more than once
infixl 2 ◌▶◌
unfoldable pub ◌▶◌ : {A : Type 0} → Interval → (Interval → A) → A
unknown ▶ f = f unknown
ends l h ▶ f = f (ends l h)

pub computed : {A : Type 0} (I : Interval) (f : Interval → A) → (I ▶ f) ≡ f I
unfolding ◌▶◌
computed unknown f = refl
computed (ends l h) f = refl

-- ---- whether an interval lies in lo .. hi
unfoldable pub lies : Float → Interval → Float → Bool
lies lo unknown hi = false
lies lo (ends l h) hi = le lo l && le h hi

pub lies_in : {I : Interval} {x : Float} (lo hi : Float) → T (finite lo) → T (finite hi) → T (lies lo I hi) → In I x → T (le lo x) × T (le x hi)
unfolding lies
lies_in lo hi p q t anything = absurd t
lies_in {x = x} lo hi p q t (inside {l} {h} a) = (
  test_of_order lo x p a.here (Le_trans lo l x (order_of_test lo l p a.low (and_l (le lo l) (le h hi) t)) a.above),
  test_of_order x hi a.here q (Le_trans x h hi a.below (order_of_test h hi a.high q (and_r (le lo l) (le h hi) t))),
)
