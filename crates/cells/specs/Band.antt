-- What a band keeps, holds and refuses.
use Rattle.std.specs.Prelude.{ℕ, ◌+◌, ◌-◌, ◌*◌, Bool, cond, ◌&&◌, ◌||◌, vec_items, Option, ◌==◌, nat_le}
use Rattle.interval.specs.declared.directed.Interval.{Interval}
use Rattle.interval.specs.Directed.{nought}
use Rattle.interval.specs.Refusals.{unless}
use Rattle.cells.specs.declared.band.Band.{Band}
use Rattle.cells.specs.Keeping.{Rule, slot_cell}

-- column minus row is from −width to width, or the column is the last
abbrev pub in_band : (width last r c : ℕ) → Bool
in_band width last r c = c == last || (nat_le c (r + width) && nat_le r (c + width))

abbrev pub keeps : Band → ℕ → ℕ → Bool
keeps b = in_band b.width b.last

-- where a cell that is kept stands in the list
abbrev pub band_slot : (last r c : ℕ) → ℕ
band_slot last r c = r * 18 + cond (c == last) 17 (c + 8 - r)

abbrev pub band_cell : Band → ℕ → ℕ → Interval
band_cell b r c = cond (keeps b r c) (slot_cell (vec_items b.cells) (band_slot b.last r c)) nought

-- a band of this width and last column takes what is put where it keeps the place
abbrev pub band_rule : (width last : ℕ) → Rule
band_rule width last cell r c v = unless (in_band width last r c) 5

abbrev pub width_refusal : ℕ → Option ℕ
width_refusal width = unless (nat_le width 8) 3

-- what a band is: its width, the last column, and what each place holds
pub record Banding : Type 0 where
  pub width : ℕ
  pub last : ℕ
  pub cell : ℕ → ℕ → Interval

abbrev pub banding : Band → Banding
banding b = record { width = b.width; last = b.last; cell = band_cell b }

abbrev pub blank_band : (width last : ℕ) → Banding
blank_band width last = record { width = width; last = last; cell = λ _ _. nought }
