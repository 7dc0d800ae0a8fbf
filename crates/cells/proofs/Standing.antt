-- What stands in the slots of a table, and what a write to one of them changes.
use Rattle.std.specs.Prelude.{◌≡◌, ℕ, zero, suc, ◌+◌, ◌<◌, ◌≤◌, Bool, true, false, cond, ◌&&◌, ◌||◌, List, [], ◌∷◌, length, get_or, Some, None, Option, ◌==◌, slice_index_or, slice_set, refl}
use Rattle.std.proofs.Common.{arith}
use Rattle.std.proofs.lemmas.List.{get_or_default}
use Rattle.std.proofs.lemmas.List.Recursion.{found_at, found_nowhere}
use Rattle.std.specs.List.{AllWithin, HoldsAt}
use Rattle.std.specs.Option.{MatchOption}
use Rattle.std.proofs.lemmas.Int.{ints}
use Rattle.std.proofs.lemmas.Bool.{false≢true}
use Rattle.std.proofs.lemmas.Bool.Decides.{nat_tests}
use Rattle.interval.specs.declared.directed.Interval.{Interval}
use Rattle.interval.specs.Directed.{nought}
use Rattle.interval.specs.declared.limited.Limited.{Limited}
use Rattle.interval.specs.Limited.{interval_of}
use Rattle.cells.specs.declared.parts.part.Part.{Part}
use Rattle.cells.specs.declared.parts.PartTable.{PartTable}
use Rattle.system.specs.declared.places.Place.{Place}
use Rattle.system.specs.Reading.{with_value}
use Rattle.cells.specs.Keeping.{bottom_reach}
use Rattle.cells.specs.Slots.{is_nought, part, empty, is_empty, stands_at, cell_in, standing, one_part, Found}
use Rattle.cells.specs.Parts.{table_cell, parts_in, parts_rule, Room}
use Rattle.cells.proofs.Counting.{count, parts_none, parts_raised}

-- an interval that passes the test is (0, 0)
nought_is : (x : Interval) → is_nought x ≡ true → x ≡ nought
nought_is x e = grind (arith, ints, nat_tests)

-- no more parts stand than there are slots
pub standing_most : (ps : List Part) → standing ps ≤ length ps
standing_most [] = omega arith
standing_most (p ∷ ps) = grind (arith, nat_tests, standing_most ps)

-- ---- places with one part

-- where no place has two parts, as many parts stand in the slots as are read
pub parts_stand : (ps : List Part) → one_part ps ≡ true → parts_in (cell_in ps) ≡ standing ps
parts_stand [] one = parts_none
parts_stand (p ∷ ps) one = grind (arith, nat_tests, parts_raised (cell_in ps) (cell_in (p ∷ ps)) p.place.row p.place.column (count (interval_of p.value)) p.place.few_rows p.place.few_columns each, parts_stand ps)
  where
    each : (i j : ℕ) → count (cell_in (p ∷ ps) i j) ≡ count (cell_in ps i j) + cond (i == p.place.row && j == p.place.column) (count (interval_of p.value)) 0
    each i j = grind (arith, nat_tests)

-- ---- the slots that are found

-- what `position` answers: nothing where test is false of every part, or the first slot where it is true
abbrev pub First : (Part → Bool) → List Part → Option ℕ → Type 0
First test ps i = MatchOption i (AllWithin (λ p. test p ≡ false) ps 0 (length ps)) (λ i. (i < length ps) × HoldsAt (λ p. test p ≡ true) ps i × AllWithin (λ p. test p ≡ false) ps 0 i)

pub found_first : (r c : ℕ) (ps : List Part) (i : Option ℕ) → length ps ≡ 128 → First (stands_at r c) ps i → Found ps r c i
found_first r c ps None whole none = found_nowhere (λ qs. cell_in qs r c) (stands_at r c) (λ p. interval_of p.value) nought refl (λ _ _. refl) ps empty (λ k inside. none k empty (omega arith) inside)
found_first r c ps (Some i) whole (inside, passes, before) = (
  omega arith,
  passes empty,
  found_at (λ qs. cell_in qs r c) (stands_at r c) (λ p. interval_of p.value) nought refl (λ _ _. refl) ps i empty inside (λ k less. before k empty (omega arith) less) (passes empty),
)

standing_all : (ps : List Part) → ((k : ℕ) → k < length ps → is_empty (get_or ps k empty) ≡ false) → standing ps ≡ length ps
standing_all [] none = refl
standing_all (p ∷ ps) none = grind (arith, nat_tests, none 0 (omega arith), standing_all ps (λ k inside. none (suc k) (omega arith)))

standing_less : (ps : List Part) (i : ℕ) → i < length ps → is_empty (get_or ps i empty) ≡ true → standing ps < length ps
standing_less [] i inside e = omega arith
standing_less (p ∷ ps) zero inside e = grind (arith, nat_tests, standing_most ps)
standing_less (p ∷ ps) (suc i) inside e = grind (arith, nat_tests, standing_less ps i (omega arith) e)

pub room_first : (t : PartTable) (i : Option ℕ) → length t.parts ≡ 128 → First is_empty t.parts i → Room t i
room_first t None whole none = omega (arith, whole, standing_all t.parts (λ k inside. none k empty (omega arith) inside), parts_stand t.parts t.apart)
room_first t (Some i) whole (inside, passes, _) = (omega arith, inside, passes empty, omega (arith, standing_less t.parts i inside (passes empty), parts_stand t.parts t.apart))

-- ---- a part put at a place

module _ (place : Place) where
  abbrev r : ℕ
  r = place.row

  abbrev c : ℕ
  c = place.column

  -- where a place holds (0, 0), no part stands there
  none_at : (ps : List Part) (i : ℕ) → cell_in ps r c ≡ nought → stands_at r c (slice_index_or ps i empty) ≡ false
  none_at [] i e = refl
  none_at (p ∷ ps) zero e = grind (arith, nat_tests)
  none_at (p ∷ ps) (suc i) e = none_at ps i (grind (arith, nat_tests))

  -- slot i is empty or its part is at the place, and in no other slot a part stands there
  abbrev Ready : List Part → ℕ → Type 0
  Ready [] i = ⊥
  Ready (p ∷ ps) zero = ((is_empty p || (p.place.row == r && p.place.column == c)) ≡ true) × (cell_in ps r c ≡ nought)
  Ready (p ∷ ps) (suc i) = (stands_at r c p ≡ false) × Ready ps i

  ready_vacant : (ps : List Part) (i : ℕ) → i < length ps → is_empty (get_or ps i empty) ≡ true → cell_in ps r c ≡ nought → Ready ps i
  ready_vacant [] i inside e none = omega arith
  ready_vacant (p ∷ ps) zero inside e none = grind (arith, nat_tests)
  ready_vacant (p ∷ ps) (suc i) inside e none = grind (arith, nat_tests, ready_vacant ps i (omega arith) e)

  ready_found : (ps : List Part) (i : ℕ) → stands_at r c (slice_index_or ps i empty) ≡ true → one_part ps ≡ true → Ready ps i
  ready_found [] i e one = false≢true e
  ready_found (p ∷ ps) zero e one = grind (arith, nat_tests, nought_is (cell_in ps r c))
  ready_found (p ∷ ps) (suc i) e one = grind (arith, nat_tests, nought_is (cell_in ps r c), none_at ps i, ready_found ps i e)

  module _ (q : Part) (at_row : q.place.row ≡ r) (at_column : q.place.column ≡ c) where
    put_cell : (ps : List Part) (i : ℕ) → Ready ps i → (a b : ℕ) → cell_in (slice_set ps i q) a b ≡ with_value r c (interval_of q.value) (cell_in ps) a b
    put_cell [] i h a b = absurd h
    put_cell (p ∷ ps) zero h a b = grind (arith, nat_tests, nought_is (interval_of q.value))
    put_cell (p ∷ ps) (suc i) h a b = grind (arith, nat_tests, put_cell ps i h.1 a b)

    put_one : (ps : List Part) (i : ℕ) → Ready ps i → one_part ps ≡ true → one_part (slice_set ps i q) ≡ true
    put_one [] i h one = absurd h
    put_one (p ∷ ps) zero h one = grind (arith, nat_tests)
    put_one (p ∷ ps) (suc i) h one = grind (arith, nat_tests, put_cell ps i h.1 p.place.row p.place.column, put_one ps i h.1)

  -- ---- a table after a put

  -- the parts of table t after v was put at the place
  pub record Put (t : PartTable) (v : Interval) (after : List Part) : Type 0 where
    pub accepted : parts_rule (table_cell t) r c v ≡ None
    pub cells_are : cell_in after ≡ with_value r c v (table_cell t)
    pub apart : one_part after ≡ true

  module _ (t : PartTable) (i : ℕ) where
    by_slot : (q : Part) → q.place.row ≡ r → q.place.column ≡ c → Ready t.parts i → parts_rule (table_cell t) r c (interval_of q.value) ≡ None → Put t (interval_of q.value) (slice_set t.parts i q)
    by_slot q at_row at_column ready accepted = record { accepted = accepted; cells_are = λ k a b. put_cell q at_row at_column t.parts i ready a b k; apart = put_one q at_row at_column t.parts i ready t.apart }

    pub by_rewrite : (d : Part) (v : Limited bottom_reach) → i < length t.parts → Found t.parts r c (Some i) → Put t (interval_of v) (slice_set t.parts i (part (slice_index_or t.parts i d).place v))
    by_rewrite d v inside found =
        let same = get_or_default t.parts i d empty inside in
        by_slot (part (slice_index_or t.parts i d).place v) (grind (arith, nat_tests, same)) (grind (arith, nat_tests, same)) (ready_found t.parts i found.1 t.apart) (grind (arith, nat_tests))

    pub by_fill : (v : Limited bottom_reach) → Found t.parts r c None → Room t (Some i) → Put t (interval_of v) (slice_set t.parts i (part place v))
    by_fill v none room = by_slot (part place v) refl refl (ready_vacant t.parts i room.1 room.2 none) (grind (arith, nat_tests))
