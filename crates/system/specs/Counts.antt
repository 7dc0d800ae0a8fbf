-- Counts, and which places there are.
use Rattle.std.specs.Prelude.{ℕ, ◌&&◌, Option, nat_le, nat_lt}
use Rattle.interval.specs.Refusals.{unless}
use Rattle.system.specs.declared.counts.Counts.{Counts}
use Rattle.system.specs.Reading.{max_count, is_there}

-- each count is from 1 to 64
abbrev pub counts_refusal : ℕ → ℕ → Option ℕ
counts_refusal rows columns = unless ((nat_le 1 rows && nat_le rows max_count) && (nat_le 1 columns && nat_le columns max_count)) 3

-- the row and the column are there
abbrev pub place_refusal : Counts → ℕ → ℕ → Option ℕ
place_refusal n r c = unless (is_there n.rows n.columns r c) 2

-- the column is there
abbrev pub column_refusal : Counts → ℕ → Option ℕ
column_refusal n c = unless (nat_lt c n.columns) 2
