-- Why a pile is a sheet as every sheet is. The proofs of the traits' laws cite these, and such a proof may cite no file of
-- proofs/.
use Rattle.std.proofs.Common.{◌≡◌, ℕ, ◌<◌, Bool, true, false, ltb, List, [], ◌∷◌, ℤ, Some, None, Option, refl, ap, ◌∙◌, arith}
use Rattle.std.proofs.lemmas.Bool.Decides.{nat_tests}
use Rattle.std.proofs.lemmas.Int.{ints}
use Rattle.std.proofs.lemmas.Bool.{lt-ltb, ltb-true}
use Rattle.interval.specs.Refusals.{or_else}
use Rattle.system.specs.declared.faults.PutFault.{PutFault}
use Rattle.system.specs.Reading.{Model, Bounded, held_within}
use Rattle.system.specs.Faults.{fault_at, fault_of, raised}
use Rattle.system.specs.Writing.{Refuses, first_refusal, ChecksFirst, NamesPlace}
use Rattle.layer.specs.Views.{Extent, View, Lawful, extent_of, through, signed, own_refusal, or_raised}
use Rattle.pile.specs.Piles.{laid, handed}

-- a row or a column that is there stands for one that is there
inside : (f : ℕ → ℕ) (n : ℕ) → ((k : ℕ) → ltb (f k) n ≡ ltb k n) → (k : ℕ) → k < n → f k < n
inside f n same k less = ltb-true (f k) n (same k ∙ lt-ltb k n less)

signed_within : (b : Bool) (k : Option ℤ) → held_within k ≡ true → held_within (signed b k) ≡ true
signed_within b None h = refl
signed_within true (Some k) h = grind (arith, ints, nat_tests)
signed_within false (Some k) h = h

pub bounded_through : (v : View) (m : Model) → Lawful (extent_of m) v → Bounded m → Bounded (through v m)
bounded_through v m law b =
    record {
      some_rows = b.some_rows;
      few_rows = b.few_rows;
      some_columns = b.some_columns;
      few_columns = b.few_columns;
      small_reach = law.small_reach b.small_reach;
      cells = λ r c hr hc. law.near r c _ (b.cells (v.row r) (v.column c) (inside v.row m.rows law.rows_inside r hr) (inside v.column m.columns law.columns_inside c hc));
      numbers = λ c hc. signed_within (v.negated c) (m.held (v.column c)) (b.numbers (v.column c) (inside v.column m.columns law.columns_inside c hc));
    }

pub bounded_laid : {L : Type 0} (view : L → Extent → View) → ((l : L) (e : Extent) → Lawful e (view l e)) → (ls : List L) (m : Model) → Bounded m → Bounded (laid view ls m)
bounded_laid view law [] m b = b
bounded_laid view law (l ∷ ls) m b = bounded_through (view l (extent_of (laid view ls m))) (laid view ls m) (law l (extent_of (laid view ls m))) (bounded_laid view law ls m b)

-- a refusal that comes first is the answer
first_comes : (a b : Option ℕ) (n r c : ℕ) (below : Option PutFault) → a ≡ Some n → or_raised (fault_of (or_else a b) r c) below ≡ Some (fault_at n r c)
first_comes None b n r c below h = absurd (cc)
first_comes (Some k) b n r c below h = ap (λ o. or_raised (fault_of (or_else o b) r c) below) h

pub checks_handed : {L : Type 0} (view : L → Extent → View) (ls : List L) (m : Model) (bottom : Refuses) → ChecksFirst m bottom → ChecksFirst (laid view ls m) (handed view ls m bottom)
checks_handed view [] m bottom law = law
checks_handed view (l ∷ ls) m bottom law = λ r c x n h.
    let v = view l (extent_of (laid view ls m)) in
    first_comes (first_refusal (laid view ls m) r c x) (v.refusal r c x) n r c (handed view ls m bottom (v.row r) (v.column c) (v.lowered r c x)) h

raised_is : (g f : PutFault) → ◌≡◌ {A = Option PutFault} (Some (raised g)) (Some f) → raised g ≡ f
raised_is g f h = cc

-- a fault from below is no fault of the topmost layer
own_place : (own : Option ℕ) (below : Option PutFault) (r c : ℕ) (f : PutFault) → or_raised (fault_of own r c) below ≡ Some f → f.layer ≡ 0 → (f.row ≡ r) × (f.column ≡ c)
own_place (Some n) below r c f h top = (cc, cc)
own_place None None r c f h top = absurd (cc)
own_place None (Some g) r c f h top = let z : (raised g).layer ≡ 0 = ap (λ (o : PutFault). o.layer) (raised_is g f h) ∙ top in absurd (grind (arith, nat_tests))

pub places_handed : {L : Type 0} (view : L → Extent → View) (ls : List L) (m : Model) (bottom : Refuses) → NamesPlace bottom → NamesPlace (handed view ls m bottom)
places_handed view [] m bottom law = law
places_handed view (l ∷ ls) m bottom law = λ r c x f h top.
    let v = view l (extent_of (laid view ls m)) in
    own_place (own_refusal v (laid view ls m) r c x) (handed view ls m bottom (v.row r) (v.column c) (v.lowered r c x)) r c f h top
