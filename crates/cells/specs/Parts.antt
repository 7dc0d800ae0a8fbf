-- What a table of parts holds, and what it refuses.
use Rattle.std.specs.Prelude.{◌≡◌, ℕ, zero, suc, ◌+◌, ◌<◌, true, cond, not, ◌||◌, length, Some, None, Option, nat_lt, slice_index_or}
use Rattle.interval.specs.declared.directed.Interval.{Interval}
use Rattle.interval.specs.Refusals.{unless}
use Rattle.cells.specs.declared.parts.PartTable.{PartTable}
use Rattle.cells.specs.Keeping.{Rule}
use Rattle.cells.specs.Slots.{is_nought, empty, is_empty, cell_in}

abbrev pub table_cell : PartTable → ℕ → ℕ → Interval
table_cell t = cell_in t.parts

-- f 0 + .. + f (n - 1)
unfoldable pub total : (n : ℕ) → (ℕ → ℕ) → ℕ
total zero f = 0
total (suc n) f = total n f + f n

-- how many parts stand: the cells of 64 rows and 64 columns that are not (0, 0); beyond its counts a sheet has none
unfoldable pub parts_in : (ℕ → ℕ → Interval) → ℕ
parts_in cell = total 64 (λ r. total 64 (λ c. cond (is_nought (cell r c)) 0 1))

-- what is taken where these cells stand: (0, 0), any value where a part stands, and any while fewer than 128 parts stand
abbrev pub parts_rule : Rule
parts_rule cell r c v = unless (is_nought v || (not (is_nought (cell r c)) || nat_lt (parts_in cell) 128)) 6

-- an empty slot of a table in which fewer than 128 parts stand, or nothing where 128 stand
abbrev pub Room : PartTable → Option ℕ → Type 0
Room t (Some i) = (i < 128) × (i < length t.parts) × (is_empty (slice_index_or t.parts i empty) ≡ true) × (parts_in (table_cell t) < 128)
Room t None = parts_in (table_cell t) ≡ 128
