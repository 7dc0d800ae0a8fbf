-- What `all` over the numbers below n answers: whether something is true of each.
use Rattle.std.proofs.Common.{◌≡◌, ℕ, ◌<◌, Bool, true, false, length, get_or, refl, sym, subst, arith, Decides}
use Rattle.std.specs.Bool.{MatchBool}
use Rattle.std.specs.List.{range_with_len, AllWithin, HoldsAt}
use Rattle.std.proofs.lemmas.List.FromFn.{length-range_with_len, get_or-range_with_len}

at : (n k : ℕ) → k < n → get_or (range_with_len 0 n) k 0 ≡ k
at n k less = omega (arith, get_or-range_with_len 0 n k 0 less)

pub every_below : (P : ℕ → Type 0) (n : ℕ) (r : Bool) → MatchBool r (AllWithin P (range_with_len 0 n) 0 (length (range_with_len 0 n))) ((k : ℕ) × (k < length (range_with_len 0 n)) × HoldsAt (λ x. ¬ (P x)) (range_with_len 0 n) k) → Decides r ((k : ℕ) → k < n → P k)
every_below P n true each = (λ _ k less. subst P (at n k less) (each k 0 (omega arith) (omega (arith, length-range_with_len 0 n))), λ _. refl)
every_below P n false (k, less, fails) = (λ e. absurd (cc), λ each. let inside : k < n = omega (arith, length-range_with_len 0 n) in absurd (fails 0 (subst P (sym (at n k inside)) (each k inside))))
