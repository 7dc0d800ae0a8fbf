-- One layer over a system, and all layers of a pile.
use Rattle.std.proofs.Common.{◌≡◌, ℕ, Bool, true, false, cond, not, eqb, List, [], ◌∷◌, ℤ, neg_ℤ, Some, None, Ok, Err, Option, Result, sym, ap, ◌∙◌, refl, arith}
use Rattle.std.proofs.lemmas.Bool.Decides.{nat_tests}
use Rattle.std.proofs.lemmas.Int.{ints}
use Rattle.interval.specs.declared.directed.Interval.{Interval}
use Rattle.interval.specs.declared.refusals.Refusal.{Refusal}
use Rattle.interval.specs.Directed.{in_limit}
use Rattle.interval.specs.Refusals.{Answers, Changes}
use Rattle.system.specs.declared.faults.PutFault.{PutFault}
use Rattle.system.specs.Reading.{Model, max_held, has_column, with_value, with_cell}
use Rattle.system.specs.Faults.{raised}
use Rattle.system.specs.Writing.{State, state, Puts, hold_refusal, free_refusal, holding}
use Rattle.layer.specs.Views.{Extent, View, Lawful, extent_of, through, signed, own_refusal, answers, over}
use Rattle.pile.specs.declared.descent.Landing.{Landing}
use Rattle.pile.specs.declared.descent.Put.{Put}
use Rattle.pile.specs.Piles.{laid, landed, piled, blank_of, lowered_by}

pub laid_rows : {L : Type 0} (view : L → Extent → View) (ls : List L) (m : Model) → (laid view ls m).rows ≡ m.rows
laid_rows view [] m = refl
laid_rows view (l ∷ ls) m = laid_rows view ls m

pub laid_columns : {L : Type 0} (view : L → Extent → View) (ls : List L) (m : Model) → (laid view ls m).columns ≡ m.columns
laid_columns view [] m = refl
laid_columns view (l ∷ ls) m = laid_columns view ls m

-- what goes down through a layer is shown as it was put, and all else as before
put_cell : (v : View) (e : Extent) → Lawful e v → (cell : ℕ → ℕ → Interval) (r c : ℕ) (x : Interval) → v.refusal r c x ≡ None → (i j : ℕ)
    → v.shown i j (with_value (v.row r) (v.column c) (v.lowered r c x) cell (v.row i) (v.column j)) ≡ with_value r c x (λ a b. v.shown a b (cell (v.row a) (v.column b))) i j
put_cell v e law cell r c x taken i j =
    let rows = law.rows_apart i r in
    let columns = law.columns_apart j c in
    let back = law.back r c x taken in
    grind (arith, nat_tests)

put_through : (v : View) (m : Model) → Lawful (extent_of m) v → (r c : ℕ) (x : Interval) → v.refusal r c x ≡ None → through v (with_cell (v.row r) (v.column c) (v.lowered r c x) m) ≡ with_cell r c x (through v m)
put_through v m law r c x taken = λ z. record { rows = m.rows; columns = m.columns; reach = v.reach; cell = λ i j. put_cell v (extent_of m) law m.cell r c x taken i j z; held = λ j. signed (v.negated j) (m.held (v.column j)) }

-- what a layer answers where the sheet below answers
abbrev pub handed_up : Result (Unit {0}) PutFault → Result (Unit {0}) PutFault
handed_up (Ok u) = Ok u
handed_up (Err f) = Err (raised f)

-- a put through one layer more, which lets it go down
pub put_over : (view : Extent → View) (before after : State) → Lawful (extent_of before.model) (view (extent_of before.model)) → (e : Extent) → e ≡ extent_of before.model → (r c : ℕ) (x : Interval) (low : Put) → Answers (own_refusal (view e) (blank_of e) r c x) (lowered_by (view e) r c x) (Ok low)
    → (q : Result (Unit {0}) PutFault) → Puts low.row low.column low.value before after q → Puts r c x (over view before) (over view after) (handed_up q)
put_over view before after law e same r c x low goes q done = let shown = put_through (view (extent_of before.model)) before.model law r c x in grind arith

-- a held number that is passed on or negated, once by a layer and once by those below
signed_swapped : (a b : Bool) (k : Option ℤ) → signed b (signed a k) ≡ signed (cond a (not b) b) k
signed_swapped a b k = grind (arith, ints)

signed_twice : (b : Bool) (k : Option ℤ) → signed b (signed b k) ≡ k
signed_twice b k = grind (arith, ints)

signed_false : (k : Option ℤ) → signed false k ≡ k
signed_false k = grind arith

same_size : (n : ℕ) (b : Bool) (k : ℤ) → in_limit n (cond b (neg_ℤ k) k) ≡ in_limit n k
same_size n b k = grind (arith, ints, nat_tests)

-- a column of a pile is the bottom's column that it stands for
pub has_landed : {L : Type 0} (view : L → Extent → View) → ((l : L) (e : Extent) → Lawful e (view l e)) → (ls : List L) (m : Model) (c : ℕ) → has_column (laid view ls m) c ≡ has_column m (landed view ls m c).column
has_landed view law [] m c = refl
has_landed view law (l ∷ ls) m c =
    let e = extent_of (laid view ls m) in
    sym ((law l e).columns_inside c) ∙ has_landed view law ls m ((view l e).column c)

pub held_landed : {L : Type 0} (view : L → Extent → View) (ls : List L) (m : Model) (c : ℕ) → (laid view ls m).held c ≡ signed (landed view ls m c).negated (m.held (landed view ls m c).column)
held_landed view [] m c = grind arith
held_landed view (l ∷ ls) m c = let below = held_landed view ls m ((view l (extent_of (laid view ls m))).column c) in grind (arith, ints)

held_column : (v : View) (e : Extent) → Lawful e v → (held : ℕ → Option ℤ) (c : ℕ) (k : Option ℤ) (j : ℕ)
    → signed (v.negated j) (cond (eqb (v.column j) (v.column c)) (signed (v.negated c) k) (held (v.column j))) ≡ cond (eqb j c) k (signed (v.negated j) (held (v.column j)))
held_column v e law held c k j =
    let columns = law.columns_apart j c in
    let twice = signed_twice (v.negated j) k in
    grind (arith, nat_tests)

held_over : (view : Extent → View) (s : State) → Lawful (extent_of s.model) (view (extent_of s.model)) → (c : ℕ) (k : Option ℤ)
    → over view (holding ((view (extent_of s.model)).column c) (signed ((view (extent_of s.model)).negated c) k) s) ≡ holding c k (over view s)
held_over view s law c k =
    let m = s.model in
    let v = view (extent_of m) in
    λ z. state (record { rows = m.rows; columns = m.columns; reach = v.reach; cell = λ i j. v.shown i j (m.cell (v.row i) (v.column j)); held = λ j. held_column v (extent_of m) law m.held c k j z }) (answers v m s.refuses)

-- what hold checks if there is a number, and else what free checks
abbrev pub held_refusal : Model → ℕ → Option ℤ → Option ℕ
held_refusal m c None = free_refusal m c
held_refusal m c (Some k) = hold_refusal m c k

-- that is the same above and below
checks_over : (v : View) (m : Model) → Lawful (extent_of m) v → (c : ℕ) (k : Option ℤ) → held_refusal (through v m) c k ≡ held_refusal m (v.column c) (signed (v.negated c) k)
checks_over v m law c None = rw (law.columns_inside c)
checks_over v m law c (Some k) = rw (law.columns_inside c, same_size max_held (v.negated c) k)

checks_landed : {L : Type 0} (view : L → Extent → View) → ((l : L) (e : Extent) → Lawful e (view l e)) → (ls : List L) (m : Model) (c : ℕ) (k : Option ℤ)
    → held_refusal (laid view ls m) c k ≡ held_refusal m (landed view ls m c).column (signed (landed view ls m c).negated k)
checks_landed view law [] m c k = rw (signed_false k)
checks_landed view law (l ∷ ls) m c k =
    let e = extent_of (laid view ls m) in
    let v = view l e in
    let below = checks_landed view law ls m (v.column c) (signed (v.negated c) k) in
    checks_over v (laid view ls m) (law l e) c k ∙ rw signed_swapped at below

holding_landed : {L : Type 0} (view : L → Extent → View) → ((l : L) (e : Extent) → Lawful e (view l e)) → (ls : List L) (s : State) (c : ℕ) (k : Option ℤ)
    → piled view ls (holding (landed view ls s.model c).column (signed (landed view ls s.model c).negated k) s) ≡ holding c k (piled view ls s)
holding_landed view law [] s c k = rw (signed_false k)
holding_landed view law (l ∷ ls) s c k =
    let e = extent_of (laid view ls s.model) in
    let v = view l e in
    let d = landed view ls s.model (v.column c) in
    ap (λ (n : Option ℤ). piled view (l ∷ ls) (holding d.column n s)) (sym (signed_swapped (v.negated c) d.negated k))
    ∙ ap (over (view l)) (holding_landed view law ls s (v.column c) (signed (v.negated c) k))
    ∙ held_over (view l) (piled view ls s) (law l e) c k

-- what is done to a column of the bottom is done to the column of the pile that stands for it
pub changes_landed : {L : Type 0} (view : L → Extent → View) → ((l : L) (e : Extent) → Lawful e (view l e)) → (ls : List L) (before after : State) (c : ℕ) (k : Option ℤ) (d : Landing) → d ≡ landed view ls before.model c → (r : Result (Unit {0}) Refusal)
    → Changes (held_refusal before.model d.column (signed d.negated k)) (holding d.column (signed d.negated k)) before after r → Changes (held_refusal (laid view ls before.model) c k) (holding c k) (piled view ls before) (piled view ls after) r
changes_landed view law ls before after c k d same r h =
    let checks = checks_landed view law ls before.model c k in
    let shown = holding_landed view law ls before c k in
    grind arith

-- a number outside the limit is refused with either sign
pub same_number : (n : Bool) (k s : ℤ) → in_limit max_held s ≡ in_limit max_held k → (in_limit max_held k ≡ true → s ≡ cond n (neg_ℤ k) k) → (before after : State) (c : ℕ) (r : Result (Unit {0}) Refusal)
    → Changes (hold_refusal before.model c s) (holding c (Some s)) before after r → Changes (held_refusal before.model c (signed n (Some k))) (holding c (signed n (Some k))) before after r
same_number n k s size value before after c r h = let same = same_size max_held n k in grind arith
