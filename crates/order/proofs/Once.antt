-- Numbers below n that are placed apart among themselves: each is named once.
use Rattle.std.proofs.Common.{◌≡◌, ℕ, ◌<◌, ◌≢◌, eqb, map, length, get_or, true, false, true≢false, sym, ◌∙◌, arith, ⊎_elim, List, ◌∷◌}
use Rattle.std.specs.List.{list_any, range_with_len}
use Rattle.std.proofs.lemmas.Bool.{cases_Bool, eq-eqb, eqb-true}
use Rattle.std.proofs.lemmas.Bool.Decides.{Decides-eqb}
use Rattle.std.proofs.lemmas.List.Folds.{Any-from_list_any, list_any_at}
use Rattle.std.proofs.lemmas.List.FromFn.{length-map-range_with_len, get_or-map-range_with_len}
use Rattle.std.proofs.lemmas.List.Kept.{AllPairs-cons}
use Rattle.std.proofs.lemmas.Map.Made.{IsDistinct-from_AllPairs}
use Rattle.std.proofs.lemmas.Map.Steps.{length-le_from_distinct_below}
use Rattle.order.specs.Tables.{NamesOnce}

module _ (n : ℕ) (f : ℕ → ℕ) (below : (j : ℕ) → j < n → f j < n) (apart : (i j : ℕ) → f i ≡ f j → i ≡ j) where
  -- where the first n are placed
  abbrev taken : List ℕ
  taken = map f (range_with_len 0 n)

  long : length taken ≡ n
  long = length-map-range_with_len f 0 n

  at : (j d : ℕ) → j < n → get_or taken j d ≡ f j
  at j d less = get_or-map-range_with_len f 0 n j j d less (omega arith)

  -- a number that stands in the list is the place of one of them
  named : (k : ℕ) → list_any (eqb k) taken ≡ true → (j : ℕ) × (j < n) × (f j ≡ k)
  named k e =
      let w = Any-from_list_any (eqb k) taken e in
      let less : w.0 < n = omega (arith, long, w.2) in
      (w.0, less, sym (at w.0 w.1 less) ∙ w.3 ∙ sym (eqb-true k w.1 w.4))

  -- n numbers that are apart leave none out: with one more there would be too many
  not_missed : (k : ℕ) → k < n → list_any (eqb k) taken ≡ false → ⊥
  not_missed k less missed =
      let other : (j d : ℕ) → j < length taken → k ≢ get_or taken j d = λ j d h e. true≢false (sym (list_any_at (eqb k) taken j d h (eq-eqb k (get_or taken j d) e)) ∙ missed) in
      let others : (i j d : ℕ) → i < j → j < length taken → get_or taken i d ≢ get_or taken j d = λ i j d lt h e. let same = apart i j (sym (at i d (omega (arith, long))) ∙ e ∙ at j d (omega (arith, long))) in omega arith in
      let distinct = IsDistinct-from_AllPairs Decides-eqb (k ∷ taken) (AllPairs-cons (λ x y. x ≢ y) k taken other others) in
      let inside : (q : ℕ) → list_any (eqb q) (k ∷ taken) ≡ true → q < n = λ q has. ⊎_elim (λ e. omega (arith, eqb-true q k e)) (λ e. let w = named q (rw e at has) in omega (arith, below w.0 w.1, w.2)) (cases_Bool (eqb q k)) in
      omega (arith, long, length-le_from_distinct_below (k ∷ taken) n distinct inside)

  pub once : NamesOnce n f
  once k less =
      ⊎_elim
      (λ e. let w = named k e in (w.0, (w.1, w.2, λ i h. apart i w.0 (h ∙ sym w.2))))
      (λ e. absurd (not_missed k less e))
      (cases_Bool (list_any (eqb k) taken))
