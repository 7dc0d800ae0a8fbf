-- Why an order is a layer as every layer is. The proof of the trait's law cites this, and such a proof may cite no file of
-- proofs/.
use Rattle.std.specs.Prelude.{◌≡◌, ℕ, Bool, true, false, cond, ◌==◌}
use Rattle.std.proofs.Common.{ltb, refl, ap, ◌∙◌, sym}
use Rattle.std.proofs.lemmas.Bool.{eqb-true, and_parts}
use Rattle.layer.specs.Views.{Extent, Lawful}
use Rattle.order.specs.declared.tables.Order.{Order}
use Rattle.order.specs.Tables.{place_of, arrangement_of, fits_counts, arranged}

-- a choice between two ways to stand for a number, of which both keep to the law
inside_either : (b : Bool) (f : ℕ → ℕ) (n : ℕ) → (b ≡ true → (k : ℕ) → ltb (f k) n ≡ ltb k n) → (k : ℕ) → ltb (cond b (f k) k) n ≡ ltb k n
inside_either true f n law k = law refl k
inside_either false f n law k = refl

inside_of : (f : ℕ → ℕ) (m n : ℕ) → m ≡ n → ((k : ℕ) → ltb (f k) m ≡ ltb k m) → (k : ℕ) → ltb (f k) n ≡ ltb k n
inside_of f m n same law k = sym (ap (ltb (f k)) same) ∙ law k ∙ ap (ltb k) same

apart_either : (b : Bool) (f : ℕ → ℕ) → ((i j : ℕ) → (f i == f j) ≡ (i == j)) → (i j : ℕ) → (cond b (f i) i == cond b (f j) j) ≡ (i == j)
apart_either true f law i j = law i j
apart_either false f law i j = refl

pub lawful : (o : Order) (e : Extent) → Lawful e (arranged (arrangement_of o) e)
lawful o e =
    let w = arrangement_of o in
    let fits = fits_counts w e in
    record {
      rows_inside = inside_either fits (place_of o.rows) e.rows (λ h k. inside_of (place_of o.rows) o.rows.count e.rows (eqb-true o.rows.count e.rows (and_parts (o.rows.count == e.rows) (o.columns.count == e.columns) h).0) o.rows.inside k);
      rows_apart = apart_either fits (place_of o.rows) o.rows.apart;
      columns_inside = inside_either fits (place_of o.columns) e.columns (λ h k. inside_of (place_of o.columns) o.columns.count e.columns (eqb-true o.columns.count e.columns (and_parts (o.rows.count == e.rows) (o.columns.count == e.columns) h).1) o.columns.inside k);
      columns_apart = apart_either fits (place_of o.columns) o.columns.apart;
      small_reach = λ h. h;
      near = λ r c x h. h;
      back = λ r c x h. refl;
    }
