-- What a layer shows of the system below it, and what it does with a put.
use Rattle.std.specs.Prelude.{◌≡◌, ℕ, ◌≤◌, Bool, cond, ℤ, neg_ℤ, Some, None, Option, ◌==◌, nat_lt}
use Rattle.interval.specs.declared.directed.Interval.{Interval}
use Rattle.interval.specs.Directed.{Within}
use Rattle.interval.specs.Refusals.{or_else}
use Rattle.system.specs.declared.faults.PutFault.{PutFault}
use Rattle.system.specs.Faults.{fault_of, raised}
use Rattle.system.specs.Reading.{Model, max_reach}
use Rattle.system.specs.Writing.{Refuses, State, state, first_refusal}

-- what a layer knows of the system below it
pub record Extent : Type 0 where
  pub rows : ℕ
  pub columns : ℕ
  pub reach : ℕ

abbrev pub extent_of : Model → Extent
extent_of m = record { rows = m.rows; columns = m.columns; reach = m.reach }

-- a layer over a system of one extent
pub record View : Type 0 where
  pub reach : ℕ
  -- the row and the column below that a row and a column stand for
  pub row : ℕ → ℕ
  pub column : ℕ → ℕ
  -- whether a column shows a held number negated
  pub negated : ℕ → Bool
  -- what a row and a column show of the interval below
  pub shown : ℕ → ℕ → Interval → Interval
  -- the number with which the layer itself refuses to have an interval put there, and what goes down if it does not
  pub refusal : ℕ → ℕ → Interval → Option ℕ
  pub lowered : ℕ → ℕ → Interval → Interval

-- a held number, passed on or negated
abbrev pub signed : Bool → Option ℤ → Option ℤ
signed negated None = None
signed negated (Some k) = Some (cond negated (neg_ℤ k) k)

-- what is read through a layer
abbrev pub through : View → Model → Model
through v m = record { rows = m.rows; columns = m.columns; reach = v.reach; cell = λ r c. v.shown r c (m.cell (v.row r) (v.column c)); held = λ c. signed (v.negated c) (m.held (v.column c)) }

-- the number with which the layer itself refuses a put: by the checks of every sheet, then by its own rule
abbrev pub own_refusal : View → Model → ℕ → ℕ → Interval → Option ℕ
own_refusal v m r c x = or_else (first_refusal m r c x) (v.refusal r c x)

-- its own fault, or else what the sheet below answers, handed up
abbrev pub or_raised : Option PutFault → Option PutFault → Option PutFault
or_raised (Some f) below = Some f
or_raised None None = None
or_raised None (Some f) = Some (raised f)

-- the answer that each put through a layer gets
abbrev pub answers : View → Model → Refuses → Refuses
answers v m below r c x = or_raised (fault_of (own_refusal v m r c x) r c) (below (v.row r) (v.column c) (v.lowered r c x))

-- a layer whose view of each extent is given, over a system, and over a sheet
abbrev pub layered : (Extent → View) → Model → Model
layered view m = through (view (extent_of m)) m

abbrev pub over : (Extent → View) → State → State
over view s = state (layered view s.model) (answers (view (extent_of s.model)) s.model s.refuses)

-- what every layer keeps to
pub record Lawful (e : Extent) (v : View) : Type 0 where
  -- rows and columns change places among themselves only, and no two of them meet
  pub rows_inside : (r : ℕ) → nat_lt (v.row r) e.rows ≡ nat_lt r e.rows
  pub rows_apart : (r s : ℕ) → (v.row r == v.row s) ≡ (r == s)
  pub columns_inside : (c : ℕ) → nat_lt (v.column c) e.columns ≡ nat_lt c e.columns
  pub columns_apart : (c d : ℕ) → (v.column c == v.column d) ≡ (c == d)
  -- what is shown of cells within the reach below is within the reach, and that is one that a system may have
  pub small_reach : e.reach ≤ max_reach → v.reach ≤ max_reach
  pub near : (r c : ℕ) (x : Interval) → Within e.reach x → Within v.reach (v.shown r c x)
  -- what goes down is shown as it was put
  pub back : (r c : ℕ) (x : Interval) → v.refusal r c x ≡ None → v.shown r c (v.lowered r c x) ≡ x
