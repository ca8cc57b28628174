-- A run of records: how many there are, where each begins, and what they give one after the other. "Reading goes on 18 bytes
-- later", and what is left at the end, less than 18 bytes, is a record too.
use Rattle.std.specs.Prelude.{List, [], ◌++◌, ℕ, zero, suc, ◌+◌, ◌*◌, ◌/◌, length, take, drop}

abbrev pub record_count : List ℕ → ℕ
record_count s = (length s + 17) / 18

-- the record number k, from 0
unfoldable pub record_at : List ℕ → ℕ → List ℕ
record_at s k = take 18 (drop (18 * k) s)

-- the walk: what the first k records of s give, one after the other, where the record t with the number j gives `of j t`
unfoldable pub gathered : (ℕ → List ℕ → List ℕ) → List ℕ → ℕ → List ℕ
gathered of s zero = []
gathered of s (suc k) = gathered of s k ++ of k (record_at s k)
