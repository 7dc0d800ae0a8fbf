-- What a held number of a frame does to a bottom, whose cells stay as they are.
use Rattle.std.proofs.Common.{ℕ, ℤ, Option, Result, refl}
use Rattle.interval.specs.declared.directed.Interval.{Interval}
use Rattle.interval.specs.declared.refusals.Refusal.{Refusal}
use Rattle.interval.specs.Refusals.{Changes}
use Rattle.interval.proofs.Changing.{changes_in}
use Rattle.system.specs.Reading.{Model, with_held}
use Rattle.system.specs.Writing.{holding}
use Rattle.cells.specs.Keeping.{Rule}
use Rattle.sheets.specs.Bottom.{ruled, with_cells, state_of}

pub held_in : (cell : ℕ → ℕ → Interval) (rule : Rule) (column : ℕ) (number : Option ℤ) (refusal : Option ℕ) (before after : Model) (r : Result (Unit {0}) Refusal) → Changes refusal (with_held column number) before after r → Changes refusal (holding column number) (state_of (ruled (with_cells cell before) rule)) (state_of (ruled (with_cells cell after) rule)) r
held_in cell rule column number refusal before after r = changes_in (λ m. state_of (ruled (with_cells cell m) rule)) refusal (with_held column number) (holding column number) before after r (λ m. refl)
