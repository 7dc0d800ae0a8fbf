-- A permutation in a list.
use Rattle.std.specs.Prelude.{ℕ, cond, List, ◌==◌, nat_lt, slice_index}

-- where the first n of the list take k; a number that is not below n stays
abbrev pub placed : List ℕ → ℕ → ℕ → ℕ
placed xs n k = cond (nat_lt k n) (slice_index xs k) k

-- i and j change places
abbrev pub swapped : ℕ → ℕ → ℕ → ℕ
swapped i j k = cond (k == i) j (cond (k == j) i k)
