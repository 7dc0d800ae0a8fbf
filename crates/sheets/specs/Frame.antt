-- What a frame says, and what it answers.
use Rattle.std.specs.Prelude.{◌≡◌, ℕ, ℤ, Some, None, Option, Result, slice_index_or}
use Rattle.interval.specs.declared.refusals.Refusal.{Refusal}
use Rattle.interval.specs.Directed.{nought}
use Rattle.interval.specs.Refusals.{unless, Gives}
use Rattle.interval.specs.declared.numbers.Number.{Number}
use Rattle.system.specs.declared.places.Place.{Place}
use Rattle.cells.specs.Keeping.{bottom_reach}
use Rattle.system.specs.Reading.{Model, max_held, has_place}
use Rattle.sheets.specs.declared.frame.Frame.{Frame}

-- the number at which a column is held
abbrev pub held_number : Option (Number max_held) → Option ℤ
held_number None = None
held_number (Some n) = Some n.value

-- a frame alone is a system whose cells are all (0, 0)
abbrev pub frame_model : Frame → Model
frame_model f = record { rows = f.counts.rows; columns = f.counts.columns; reach = bottom_reach; cell = λ _ _. nought; held = λ c. held_number (slice_index_or f.held c None) }

-- a system of these counts, every cell (0, 0) and every column free
abbrev pub blank : (rows columns : ℕ) → Model
blank rows columns = record { rows = rows; columns = columns; reach = bottom_reach; cell = λ _ _. nought; held = λ _. None }

-- the place, or the refusal of one that is not there
abbrev pub Placed : Model → (r c : ℕ) → Result Place Refusal → Type 0
Placed m r c = Gives (unless (has_place m r c) 2) (λ p. (p.row ≡ r) × (p.column ≡ c))
