-- Sums, and how many parts stand among cells.
use Rattle.std.specs.Prelude.{◌≡◌, ℕ, zero, suc, ◌+◌, ◌<◌, cond, ◌&&◌, ◌==◌, nat_lt, refl}
use Rattle.std.proofs.Common.{arith, ap, ◌∙◌}
use Rattle.std.proofs.lemmas.Bool.Decides.{nat_tests}
use Rattle.interval.specs.declared.directed.Interval.{Interval}
use Rattle.interval.specs.Directed.{nought}
use Rattle.cells.specs.Slots.{is_nought}
use Rattle.cells.specs.Parts.{total, parts_in}

total_none : (n : ℕ) → total n (λ _. 0) ≡ 0
unfolding total
total_none zero = refl
total_none (suc n) = omega (arith, total_none n)

-- term k raised by d raises the sum by d, if the sum has that term
total_raised : (k d : ℕ) (f g : ℕ → ℕ) → ((j : ℕ) → g j ≡ f j + cond (j == k) d 0) → (n : ℕ) → total n g ≡ total n f + cond (nat_lt k n) d 0
unfolding total
total_raised k d f g each zero = grind (arith, nat_tests)
total_raised k d f g each (suc n) = grind (arith, nat_tests, total_raised k d f g each n, each n)

abbrev pub count : Interval → ℕ
count x = cond (is_nought x) 0 1

pub parts_none : parts_in (λ _ _. nought) ≡ 0
unfolding parts_in
parts_none = ap (total 64) (λ i _. total_none 64 i) ∙ total_none 64

-- one cell that counts d more makes d more parts
pub parts_raised : (before after : ℕ → ℕ → Interval) (r c d : ℕ) → r < 64 → c < 64 → ((i j : ℕ) → count (after i j) ≡ count (before i j) + cond (i == r && j == c) d 0) → parts_in after ≡ parts_in before + d
unfolding parts_in
parts_raised before after r c d few_rows few_columns each = grind (arith, nat_tests, total_raised r d (row before) (row after) in_row 64)
  where
    row : (ℕ → ℕ → Interval) → ℕ → ℕ
    row cell i = total 64 (λ j. count (cell i j))

    in_row : (i : ℕ) → row after i ≡ row before i + cond (i == r) d 0
    in_row i = grind (arith, nat_tests, total_raised c (cond (i == r) d 0) (λ j. count (before i j)) (λ j. count (after i j)) (λ j. grind (arith, nat_tests, each i j)) 64)
