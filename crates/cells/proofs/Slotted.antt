-- Cells that stand in a list, each at its slot.
use Rattle.std.proofs.Common.{◌≡◌, ℕ, ◌<◌, ◌≤◌, Bool, true, cond, ltb, List, length, replicate, set, arith}
use Rattle.std.proofs.lemmas.List.{get_or-set_same, get_or-set_other, get_or-replicate, get_or_past, length-replicate}
use Rattle.std.proofs.lemmas.Bool.{cases_lt, cases_Bool}
use Rattle.std.proofs.lemmas.Bool.Decides.{nat_tests}
use Rattle.interval.specs.declared.directed.Interval.{Interval}
use Rattle.interval.specs.Directed.{nought}
use Rattle.interval.specs.declared.limited.Limited.{Limited}
use Rattle.interval.specs.Limited.{interval_of}
use Rattle.system.specs.Reading.{with_value}
use Rattle.cells.specs.Keeping.{bottom_reach, blank, slot_cell}
use Rattle.cells.specs.Grid.{grid_slot}
use Rattle.cells.specs.Band.{in_band, band_slot}

module _ (keep : ℕ → ℕ → Bool) (slot : ℕ → ℕ → ℕ) where
  abbrev pub slotted : List (Limited bottom_reach) → ℕ → ℕ → Interval
  slotted xs i j = cond (keep i j) (slot_cell xs (slot i j)) nought

  -- where every slot holds (0, 0), so does every place
  pub slotted_blank : (xs : List (Limited bottom_reach)) (n : ℕ) (v : Limited bottom_reach) → interval_of v ≡ nought → xs ≡ replicate n v → slotted xs ≡ (λ _ _. nought)
  slotted_blank xs n v is same = λ k i j. each i j k
    where
      each : (i j : ℕ) → slotted xs i j ≡ nought
      each i j = grind (arith, same, cases_Bool (keep i j), cases_lt (slot i j) n, get_or-replicate n (slot i j) v blank, get_or_past xs (slot i j) blank, length-replicate n v)

  -- where no other place that is kept has the slot of (r, c), a write there changes that cell alone
  pub slotted_set : (xs : List (Limited bottom_reach)) (r c s : ℕ) (v : Limited bottom_reach) → s ≡ slot r c → keep r c ≡ true → slot r c < length xs
      → ((i j : ℕ) → keep i j ≡ true → slot i j ≡ slot r c → (i ≡ r) × (j ≡ c))
      → slotted (set xs s v) ≡ with_value r c (interval_of v) (slotted xs)
  slotted_set xs r c s v is kept inside alone = λ k i j. each i j k
    where
      each : (i j : ℕ) → slotted (set xs s v) i j ≡ with_value r c (interval_of v) (slotted xs) i j
      each i j = grind (arith, nat_tests, is, kept, alone i j, cases_Bool (keep i j), get_or-set_same xs s v blank, get_or-set_other xs s (slot i j) v blank)

-- no two columns below 64 share a slot of the grid
pub grid_alone : (r c : ℕ) → c < 64 → (i j : ℕ) → ltb j 64 ≡ true → grid_slot i j ≡ grid_slot r c → (i ≡ r) × (j ≡ c)
grid_alone r c few i j also same = grind (arith, nat_tests)

-- the slots of a band
module _ (width last : ℕ) (narrow : width ≤ 8) where
  pub band_alone : (r c : ℕ) → in_band width last r c ≡ true → (i j : ℕ) → in_band width last i j ≡ true → band_slot last i j ≡ band_slot last r c → (i ≡ r) × (j ≡ c)
  band_alone r c kept i j also same = grind (arith, nat_tests)

  pub band_inside : (r c : ℕ) → r < 64 → in_band width last r c ≡ true → band_slot last r c < 1152
  band_inside r c few kept = grind (arith, nat_tests)
