-- A pile: a bottom, and layers over it, the topmost first.
use Rattle.std.specs.Prelude.{ℕ, false, cond, not, List, [], ◌∷◌, None}
use Rattle.interval.specs.declared.directed.Interval.{Interval}
use Rattle.interval.specs.Directed.{nought}
use Rattle.system.specs.Reading.{Model}
use Rattle.system.specs.Writing.{Refuses, State, state}
use Rattle.layer.specs.Views.{Extent, View, extent_of, layered, answers}
use Rattle.pile.specs.declared.descent.Landing.{Landing}
use Rattle.pile.specs.declared.descent.Put.{Put}

-- what is read through the layers
abbrev pub laid : {L : Type 0} → (L → Extent → View) → List L → Model → Model
laid view [] m = m
laid view (l ∷ ls) m = layered (view l) (laid view ls m)

-- the bottom's column that a column stands for, and whether a number at which that is held is shown negated
abbrev pub landed : {L : Type 0} → (L → Extent → View) → List L → Model → ℕ → Landing
landed view [] m c = record { column = c; negated = false }
landed view (l ∷ ls) m c =
    let v = view l (extent_of (laid view ls m)) in
    let below = landed view ls m (v.column c) in
    record { column = below.column; negated = cond (v.negated c) (not below.negated) below.negated }

-- the answer that each put gets through the layers
abbrev pub handed : {L : Type 0} → (L → Extent → View) → List L → Model → Refuses → Refuses
handed view [] m bottom = bottom
handed view (l ∷ ls) m bottom = answers (view l (extent_of (laid view ls m))) (laid view ls m) (handed view ls m bottom)

-- the whole meaning of the layers over a sheet; one layer more is `over` once more
abbrev pub piled : {L : Type 0} → (L → Extent → View) → List L → State → State
piled view ls s = state (laid view ls s.model) (handed view ls s.model s.refuses)

-- a system of this extent, for what is told by the counts alone
abbrev pub blank_of : Extent → Model
blank_of e = record { rows = e.rows; columns = e.columns; reach = e.reach; cell = λ _ _. nought; held = λ _. None }

-- what a layer hands down of a put
abbrev pub lowered_by : View → ℕ → ℕ → Interval → Put
lowered_by v r c x = record { row = v.row r; column = v.column c; value = v.lowered r c x }
