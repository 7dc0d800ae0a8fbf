-- What keeps cells: how far its cells reach, and its rule.
use Rattle.std.specs.Prelude.{ℕ, List, pos, Option, refl, slice_index_or}
use Rattle.interval.specs.declared.directed.Interval.{Interval}
use Rattle.interval.specs.declared.limited.Limited.{Limited}
use Rattle.interval.specs.declared.numbers.Number.{Number}
use Rattle.interval.specs.Limited.{interval_of}

-- no end of a cell is larger in size
abbrev pub bottom_reach : ℕ
bottom_reach = 100000

-- the number with which a value within the reach is refused, by what the cells hold
abbrev pub Rule : Type 0
Rule = (ℕ → ℕ → Interval) → ℕ → ℕ → Interval → Option ℕ

-- the number 0
abbrev pub none : Number bottom_reach
none = record { value = pos 0; near = refl }

-- the value (0, 0)
abbrev pub blank : Limited bottom_reach
blank = record { first = none; second = none }

-- the interval in a slot of a list
abbrev pub slot_cell : List (Limited bottom_reach) → ℕ → Interval
slot_cell xs k = interval_of (slice_index_or xs k blank)
