-- What a bottom means: what is read from it, and its own rule.
use Rattle.std.specs.Prelude.{ℕ, Option}
use Rattle.interval.specs.declared.directed.Interval.{Interval}
use Rattle.interval.specs.Directed.{within}
use Rattle.interval.specs.Refusals.{unless, or_else}
use Rattle.cells.specs.Keeping.{bottom_reach, Rule}
use Rattle.system.specs.Faults.{fault_of}
use Rattle.system.specs.Reading.{Model}
use Rattle.system.specs.Writing.{first_refusal, State, state}
use Rattle.sheets.specs.declared.bottom.Bottom.{Bottom}
use Rattle.sheets.specs.Frame.{frame_model}

pub record Ruled : Type 0 where
  pub model : Model
  pub rule : Rule

abbrev pub ruled : Model → Rule → Ruled
ruled m rule = record { model = m; rule = rule }

-- the same system with other cells
abbrev pub with_cells : (ℕ → ℕ → Interval) → Model → Model
with_cells cell m = record { rows = m.rows; columns = m.columns; reach = m.reach; cell = cell; held = m.held }

-- a bottom by its frame, and by what each place of its cells holds and their rule
abbrev pub bottom_of : {C : Type 0} → (C → ℕ → ℕ → Interval) → (C → Rule) → Bottom C → Ruled
bottom_of cell rule s = ruled (with_cells (cell s.cells) (frame_model s.frame)) (rule s.cells)

-- with which number it refuses a put: by the checks of every sheet, then by its reach, and then by its own rule
abbrev pub put_refusal : Ruled → ℕ → ℕ → Interval → Option ℕ
put_refusal b r c v = or_else (first_refusal b.model r c v) (or_else (unless (within bottom_reach v) 3) (b.rule b.model.cell r c v))

-- what it means as a sheet
abbrev pub state_of : Ruled → State
state_of b = state b.model (λ r c v. fault_of (put_refusal b r c v) r c)
