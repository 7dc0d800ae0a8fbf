-- What is read from a system, and its bounds.
use Rattle.std.specs.Prelude.{◌≡◌, ℕ, ◌<◌, ◌≤◌, Bool, true, cond, ◌&&◌, ℤ, Some, None, Option, ◌==◌, nat_lt}
use Rattle.interval.specs.declared.directed.Interval.{Interval}
use Rattle.interval.specs.Directed.{in_limit, Within}

pub record Model : Type 0 where
  pub rows : ℕ
  pub columns : ℕ
  pub reach : ℕ
  pub cell : ℕ → ℕ → Interval
  -- the number at which a column is held, or nothing where it is free
  pub held : ℕ → Option ℤ

abbrev pub max_count : ℕ
max_count = 64

abbrev pub max_reach : ℕ
max_reach = 10000000

abbrev pub max_held : ℕ
max_held = 1000

-- the row and the column are there, where there are so many rows and columns
abbrev pub is_there : (rows columns r c : ℕ) → Bool
is_there rows columns r c = nat_lt r rows && nat_lt c columns

abbrev pub has_place : Model → ℕ → ℕ → Bool
has_place m = is_there m.rows m.columns

-- the column is there
abbrev pub has_column : Model → ℕ → Bool
has_column m c = nat_lt c m.columns

-- a held number is within its limit
abbrev pub held_within : Option ℤ → Bool
held_within None = true
held_within (Some k) = in_limit max_held k

pub record Bounded (m : Model) : Type 0 where
  pub some_rows : 1 ≤ m.rows
  pub few_rows : m.rows ≤ max_count
  pub some_columns : 1 ≤ m.columns
  pub few_columns : m.columns ≤ max_count
  pub small_reach : m.reach ≤ max_reach
  pub cells : (r c : ℕ) → r < m.rows → c < m.columns → Within m.reach (m.cell r c)
  pub numbers : (c : ℕ) → c < m.columns → held_within (m.held c) ≡ true

-- the same cells but for one
abbrev pub with_value : ℕ → ℕ → Interval → (ℕ → ℕ → Interval) → ℕ → ℕ → Interval
with_value r c v cell i j = cond (i == r && j == c) v (cell i j)

-- the same system but for one cell
abbrev pub with_cell : ℕ → ℕ → Interval → Model → Model
with_cell r c v m = record { rows = m.rows; columns = m.columns; reach = m.reach; cell = with_value r c v m.cell; held = m.held }

-- the same system but for one column's held number
abbrev pub with_held : ℕ → Option ℤ → Model → Model
with_held c k m = record { rows = m.rows; columns = m.columns; reach = m.reach; cell = m.cell; held = λ j. cond (j == c) k (m.held j) }
