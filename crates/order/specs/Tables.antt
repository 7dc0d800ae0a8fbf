-- The order: the rows and the columns of the system below, in another order.
use Rattle.std.specs.Prelude.{◌≡◌, ℕ, ◌<◌, Bool, false, cond, ◌&&◌, None, Option, ◌==◌, nat_lt}
use Rattle.interval.specs.Refusals.{unless}
use Rattle.system.specs.Reading.{Model}
use Rattle.layer.specs.Views.{Extent, extent_of, View, layered}
use Rattle.order.specs.declared.places.Places.{Places}
use Rattle.order.specs.declared.tables.Order.{Order}
use Rattle.order.specs.declared.tables.Exchange.{Exchange}
use Rattle.order.specs.declared.tables.Exchange.TheVariants.{Rows, Columns}
use Rattle.order.specs.Places.{placed, swapped}

-- an order's settings: the row and the column below that each row and column stands for, and the counts that this was made for
pub record Arrangement : Type 0 where
  pub rows : ℕ
  pub columns : ℕ
  pub row : ℕ → ℕ
  pub column : ℕ → ℕ

abbrev pub place_of : Places → ℕ → ℕ
place_of p = placed p.at p.count

abbrev pub arrangement_of : Order → Arrangement
arrangement_of o = record { rows = o.rows.count; columns = o.columns.count; row = place_of o.rows; column = place_of o.columns }

abbrev pub as_they_are : Arrangement
as_they_are = record { rows = 0; columns = 0; row = λ r. r; column = λ c. c }

-- made for these counts
abbrev pub fits_counts : Arrangement → Extent → Bool
fits_counts w e = w.rows == e.rows && w.columns == e.columns

-- the rows and the columns as they stand over a system: as they are below where the order was made for other counts
abbrev pub acting_row : Arrangement → Extent → ℕ → ℕ
acting_row w e r = cond (fits_counts w e) (w.row r) r

abbrev pub acting_column : Arrangement → Extent → ℕ → ℕ
acting_column w e c = cond (fits_counts w e) (w.column c) c

abbrev pub arranged : Arrangement → Extent → View
arranged w e = record { reach = e.reach; row = acting_row w e; column = acting_column w e; negated = λ _. false; shown = λ r c x. x; refusal = λ r c x. None; lowered = λ r c x. x }

-- a change exchanges two rows, or two columns
abbrev pub exchange_refusal : Extent → Exchange → Option ℕ
exchange_refusal e (Rows i j) = unless (nat_lt i e.rows && nat_lt j e.rows) 2
exchange_refusal e (Columns i j) = unless (nat_lt i e.columns && nat_lt j e.columns) 2

abbrev pub exchanged : Arrangement → Extent → Exchange → Arrangement
exchanged w e (Rows i j) = record { rows = e.rows; columns = e.columns; row = λ r. acting_row w e (swapped i j r); column = acting_column w e }
exchanged w e (Columns i j) = record { rows = e.rows; columns = e.columns; row = acting_row w e; column = λ c. acting_column w e (swapped i j c) }

-- each of the first n numbers is named once, by one of them
abbrev pub NamesOnce : ℕ → (ℕ → ℕ) → Type 0
NamesOnce n place = (k : ℕ) → k < n → (j : ℕ) × ((j < n) × (place j ≡ k) × ((i : ℕ) → place i ≡ k → i ≡ j))

pub record OrderLaws : Type 0 where
  -- at first an order shows the system below
  pub at_first : (m : Model) → layered (arranged as_they_are) m ≡ m
  -- after the same exchange twice it shows what it showed
  pub twice : (w : Arrangement) (change : Exchange) (m : Model) → layered (arranged (exchanged (exchanged w (extent_of m) change) (extent_of m) change)) m ≡ layered (arranged w) m
  -- each order names every place once
  pub once : (p : Places) → NamesOnce p.count (place_of p)
