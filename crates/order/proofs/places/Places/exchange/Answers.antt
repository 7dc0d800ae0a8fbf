use Rattle.std.proofs.Common.{◌≡◌, ℕ, ◌<◌, eqb, ltb, List, arith, rules}
use Rattle.std.specs.List.{SwappedAt}
use Rattle.std.proofs.lemmas.Bool.Decides.{nat_tests}
use Rattle.order.specs.Places.{placed, swapped}
use Rattle.order.proofs.places.Places.exchange.Goals.{After-swap}
use Rattle.order.proofs.places.Places.exchange.Goals as goal

-- the list after the exchange places each number where the one that it is exchanged with stood
placed_swapped : (xs ys : List ℕ) (n i j : ℕ) → SwappedAt xs ys i j → i < n → j < n → (k : ℕ) → placed ys n k ≡ placed xs n (swapped i j k)
placed_swapped xs ys n i j here less_i less_j k = grind (arith, nat_tests, here.0 0, here.1 0, here.2 k 0)

swapped_inside : (i j n k : ℕ) → i < n → j < n → ltb (swapped i j k) n ≡ ltb k n
swapped_inside i j n k less_i less_j = grind (arith, nat_tests)

swapped_apart : (i j a b : ℕ) → eqb (swapped i j a) (swapped i j b) ≡ eqb a b
swapped_apart i j a b = grind (arith, nat_tests)

moved : (c : After-swap) (k : ℕ) → placed c.swap.new.self c.args.self.now.count k ≡ placed c.args.self.now.at c.args.self.now.count (swapped c.args.i c.args.j k)
moved c = placed_swapped c.args.self.now.at c.swap.new.self c.args.self.now.count c.args.i c.args.j c.swap.ensures.by_index c.if-i-self.false c.if-j-self.false

pub invariant_of-self-clause-inside : goal.invariant_of-self-clause-inside
invariant_of-self-clause-inside c = λ k. rw (moved c k, c.args.self.now.inside (swapped c.args.i c.args.j k)) (swapped_inside c.args.i c.args.j c.args.self.now.count k c.if-i-self.false c.if-j-self.false)

pub invariant_of-self-clause-apart : goal.invariant_of-self-clause-apart
invariant_of-self-clause-apart c = λ a b. rw (moved c a, moved c b, c.args.self.now.apart (swapped c.args.i c.args.j a) (swapped c.args.i c.args.j b)) (swapped_apart c.args.i c.args.j a b)

pub returns-clause-places : goal.returns-clause-places
returns-clause-places c = (search rules, λ z k. moved (goal.at.returns-clause-places c).After-swap k z)
