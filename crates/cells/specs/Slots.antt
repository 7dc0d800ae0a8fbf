-- The slots of a table of parts. A slot whose interval is (0, 0) is empty.
use Rattle.std.specs.Prelude.{◌≡◌, ℕ, suc, ◌<◌, Bool, true, cond, not, ◌&&◌, ◌||◌, List, [], ◌∷◌, get_or, Some, None, Option, ◌==◌, slice_index_or, unsigned_abs}
use Rattle.interval.specs.declared.directed.Interval.{Interval}
use Rattle.interval.specs.Directed.{nought}
use Rattle.interval.specs.declared.limited.Limited.{Limited}
use Rattle.interval.specs.Limited.{interval_of}
use Rattle.system.specs.declared.places.Place.{Place}
use Rattle.system.specs.Places.{corner}
use Rattle.cells.specs.declared.parts.part.Part.{Part}
use Rattle.cells.specs.Keeping.{bottom_reach, blank}

abbrev pub is_nought : Interval → Bool
is_nought x = unsigned_abs x.first == 0 && unsigned_abs x.second == 0

abbrev pub part : Place → Limited bottom_reach → Part
part p v = record { place = p; value = v }

abbrev pub empty : Part
empty = part corner blank

abbrev pub is_empty : Part → Bool
is_empty p = is_nought (interval_of p.value)

-- a part stands at the place
abbrev pub stands_at : ℕ → ℕ → Part → Bool
stands_at r c p = not (is_empty p) && (p.place.row == r && p.place.column == c)

-- the interval at a place: of the part that stands there, or else (0, 0)
abbrev pub cell_in : List Part → ℕ → ℕ → Interval
cell_in [] r c = nought
cell_in (p ∷ ps) r c = cond (stands_at r c p) (interval_of p.value) (cell_in ps r c)

-- how many parts stand
abbrev pub standing : List Part → ℕ
standing [] = 0
standing (p ∷ ps) = cond (is_empty p) (standing ps) (suc (standing ps))

-- no place has two parts
abbrev pub one_part : List Part → Bool
one_part [] = true
one_part (p ∷ ps) = (is_empty p || is_nought (cell_in ps p.place.row p.place.column)) && one_part ps

-- the slot of the part that stands at a place, or nothing where none does
abbrev pub Found : List Part → ℕ → ℕ → Option ℕ → Type 0
Found ps r c (Some i) = (i < 128) × (stands_at r c (slice_index_or ps i empty) ≡ true) × (cell_in ps r c ≡ interval_of (get_or ps i empty).value)
Found ps r c None = cell_in ps r c ≡ nought
