-- What a lent list holds after a sweep or after it was cleared, over the pressures that it held before.
use Rattle.std.specs.Prelude.{cond, List, ℕ, ◌+◌, ltb, length, Float}
use Rattle.arithmetic.specs.Checked.{real}
use Rattle.search.specs.Lists.{greatest, least, filled}
use Rattle.search.specs.Quick.{entries_of}

-- f 0 .. f c in the first c + 1 places; a list that has less is as it was
abbrev pub in_first : ℕ → (ℕ → Float) → List Float → List Float
in_first c f xs = cond (ltb c (length xs)) (filled f (c + 1) xs) xs

-- G of the pressures in the places 0 .. c
unfoldable pub swept_up : ℕ → List Float → List Float
swept_up c xs = in_first c (greatest (entries_of xs)) xs

-- L of them
unfoldable pub swept_down : ℕ → List Float → List Float
swept_down c xs = in_first c (least (entries_of xs) c) xs

-- +0
unfoldable pub cleared : ℕ → List Float → List Float
cleared c xs = in_first c (λ j. real 0) xs
