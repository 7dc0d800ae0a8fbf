-- What a grid holds, and what it refuses.
use Rattle.std.specs.Prelude.{ℕ, ◌+◌, ◌*◌, cond, None, vec_items, nat_lt}
use Rattle.interval.specs.declared.directed.Interval.{Interval}
use Rattle.interval.specs.Directed.{nought}
use Rattle.cells.specs.declared.grid.Grid.{Grid}
use Rattle.cells.specs.Keeping.{Rule, slot_cell}

-- where a cell stands in the list
abbrev pub grid_slot : (r c : ℕ) → ℕ
grid_slot r c = r * 64 + c

-- a row of the list has 64 cells, so there are none beyond column 63
abbrev pub grid_cell : Grid → ℕ → ℕ → Interval
grid_cell g r c = cond (nat_lt c 64) (slot_cell (vec_items g.cells) (grid_slot r c)) nought

-- every place takes every value
abbrev pub grid_rule : Rule
grid_rule cell r c v = None
