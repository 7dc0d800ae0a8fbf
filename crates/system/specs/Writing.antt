-- What put, hold and free answer, and what they change.
use Rattle.std.specs.Prelude.{◌≡◌, ℕ, ℤ, Some, None, Ok, Err, Option, Result}
use Rattle.interval.specs.declared.directed.Interval.{Interval}
use Rattle.interval.specs.Directed.{in_limit, within}
use Rattle.interval.specs.Refusals.{unless, or_else}
use Rattle.system.specs.declared.faults.PutFault.{PutFault}
use Rattle.system.specs.Faults.{fault_at}
use Rattle.system.specs.Reading.{Model, max_reach, max_held, has_place, has_column, with_cell, with_held}

-- what every sheet checks before its own rules: the place, then the limit
abbrev pub first_refusal : Model → ℕ → ℕ → Interval → Option ℕ
first_refusal m r c v = or_else (unless (has_place m r c) 2) (unless (within max_reach v) 3)

-- the answer that each put would get
abbrev pub Refuses : Type 0
Refuses = ℕ → ℕ → Interval → Option PutFault

-- a sheet's whole meaning: what is read from it, and the answer that each put would get now
pub record State : Type 0 where
  pub model : Model
  pub refuses : ℕ → ℕ → Interval → Option PutFault

abbrev pub state : Model → (ℕ → ℕ → Interval → Option PutFault) → State
state m refuses = record { model = m; refuses = refuses }

-- where these checks find a fault, it is the answer to the put
abbrev pub ChecksFirst : Model → (ℕ → ℕ → Interval → Option PutFault) → Type 0
ChecksFirst m refuses = (r c : ℕ) (v : Interval) (n : ℕ) → first_refusal m r c v ≡ Some n → refuses r c v ≡ Some (fault_at n r c)

-- a fault that arises in the topmost layer names the place that was given
abbrev pub NamesPlace : (ℕ → ℕ → Interval → Option PutFault) → Type 0
NamesPlace refuses = (r c : ℕ) (v : Interval) (f : PutFault) → refuses r c v ≡ Some f → f.layer ≡ 0 → (f.row ≡ r) × (f.column ≡ c)

-- what a put does: refused as the state before says, it changes nothing; accepted, it changes one cell
abbrev pub Puts : ℕ → ℕ → Interval → (before after : State) → Result (Unit {0}) PutFault → Type 0
Puts r c v before after (Ok _) = (before.refuses r c v ≡ None) × (after.model ≡ with_cell r c v before.model)
Puts r c v before after (Err f) = (before.refuses r c v ≡ Some f) × (after ≡ before)

-- what hold and free check
abbrev pub hold_refusal : Model → ℕ → ℤ → Option ℕ
hold_refusal m c k = or_else (unless (has_column m c) 2) (unless (in_limit max_held k) 3)

abbrev pub free_refusal : Model → ℕ → Option ℕ
free_refusal m c = unless (has_column m c) 2

-- one column held at a number, or free, and nothing else changed
abbrev pub holding : ℕ → Option ℤ → State → State
holding c k s = state (with_held c k s.model) s.refuses
