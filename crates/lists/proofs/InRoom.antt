-- A list with room for c + 1 places is swept or cleared in them, and one without is left as it was: by the one test of its length.
use mathlib.Core.Path.{◌≡◌, sym}
use mathlib.Core.List.{List}
use Prim.Native.Nat.{ℕ, ◌+◌, ◌≤◌, ◌<◌}
use borrow.Author.Tests.{lt-ltb, le-ltb}
use lib.ListN.{length}
use lib.Ieee.{Float}
use Rattle.arithmetic.specs.Checked.{real}
use Rattle.search.specs.Lists.{greatest, least, filled}
use Rattle.search.specs.Quick.{entries_of}
use Rattle.lists.specs.Swept.{in_first, swept_up, swept_down, cleared}

module _ (c : ℕ) (xs : List Float) where
  room : (f : ℕ → Float) → c < length xs → in_first c f xs ≡ filled f (c + 1) xs
  room f h = simp (lt-ltb _ _ h)

  none : (f : ℕ → Float) → length xs ≤ c → xs ≡ in_first c f xs
  none f h = sym (simp (le-ltb _ _ h))

  pub up_in_room : c < length xs → swept_up c xs ≡ filled (greatest (entries_of xs)) (c + 1) xs
  unfolding swept_up
  up_in_room h = room _ h

  pub up_without : length xs ≤ c → xs ≡ swept_up c xs
  unfolding swept_up
  up_without h = none _ h

  pub down_in_room : c < length xs → swept_down c xs ≡ filled (least (entries_of xs) c) (c + 1) xs
  unfolding swept_down
  down_in_room h = room _ h

  pub down_without : length xs ≤ c → xs ≡ swept_down c xs
  unfolding swept_down
  down_without h = none _ h

  pub cleared_in_room : c < length xs → cleared c xs ≡ filled (λ j. real 0) (c + 1) xs
  unfolding cleared
  cleared_in_room h = room _ h

  pub cleared_without : length xs ≤ c → xs ≡ cleared c xs
  unfolding cleared
  cleared_without h = none _ h
