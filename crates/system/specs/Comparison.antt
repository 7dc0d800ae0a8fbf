-- When two systems are the same: their counts and all cells are equal.
use Rattle.std.specs.Prelude.{◌≡◌, ℕ, ◌<◌}
use Rattle.system.specs.Reading.{Model}

abbrev pub SameRow : Model → Model → ℕ → Type 0
SameRow m n r = (c : ℕ) → c < m.columns → m.cell r c ≡ n.cell r c

abbrev pub Same : Model → Model → Type 0
Same m n = (m.rows ≡ n.rows) × (m.columns ≡ n.columns) × ((r : ℕ) → r < m.rows → SameRow m n r)
