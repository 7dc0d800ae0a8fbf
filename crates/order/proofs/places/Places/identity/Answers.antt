use Rattle.std.proofs.Common.{◌≡◌, ℕ, ◌<◌, List, get_or, refl, arith, rules}
use Rattle.std.proofs.lemmas.Bool.Decides.{nat_tests}
use Rattle.order.specs.Places.{placed}
use Rattle.order.proofs.places.Places.identity.Goals.{After-from_fn}
use Rattle.order.proofs.places.Places.identity.Goals as goal

in_place : (xs : List ℕ) (n : ℕ) → ((k : ℕ) → k < n → get_or xs k 0 ≡ k) → (k : ℕ) → placed xs n k ≡ k
in_place xs n own k = grind (arith, nat_tests, own k)

own : (c : After-from_fn) (k : ℕ) → placed c.from_fn.result c.args.count k ≡ k
own c = in_place c.from_fn.result c.args.count (λ k h. let called = c.from_fn.ensures.items.at k 0 (omega (arith, c.requires)) in search rules)

pub invariant_of-result-clause-inside : goal.invariant_of-result-clause-inside
invariant_of-result-clause-inside c = λ k. rw (own c k) refl

pub invariant_of-result-clause-apart : goal.invariant_of-result-clause-apart
invariant_of-result-clause-apart c = λ i j. rw (own c i, own c j) refl

pub returns-clause-places : goal.returns-clause-places
returns-clause-places c = own (goal.at.returns-clause-places c).After-from_fn
