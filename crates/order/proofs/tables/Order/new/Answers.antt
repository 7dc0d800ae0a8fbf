use Rattle.std.proofs.Common.{◌≡◌, ℕ, arith, rules}
use Rattle.std.proofs.lemmas.Bool.Decides.{nat_tests}
use Rattle.system.specs.Reading.{Model}
use Rattle.layer.specs.Views.{extent_of, layered}
use Rattle.order.specs.declared.tables.Exchange.{Exchange}
use Rattle.order.specs.declared.tables.Exchange.TheVariants.{Rows, Columns}
use Rattle.order.specs.Places.{swapped}
use Rattle.order.specs.Tables.{Arrangement, place_of, arranged, exchanged}
use Rattle.order.proofs.Once.{once}
use Rattle.order.proofs.tables.Order.new.Goals as goal

swapped_twice : (i j k : ℕ) → swapped i j (swapped i j k) ≡ k
swapped_twice i j k = grind (arith, nat_tests)

twice : (w : Arrangement) (change : Exchange) (m : Model) → layered (arranged (exchanged (exchanged w (extent_of m) change) (extent_of m) change)) m ≡ layered (arranged w) m
twice w (Rows i j) m = search (rules, swapped_twice)
twice w (Columns i j) m = search (rules, swapped_twice)

pub returns-clause-laws : goal.returns-clause-laws
returns-clause-laws c =
    record {
      at_first = λ m. search rules;
      twice = twice;
      once = λ p. once p.count (place_of p) (λ j h. grind (arith, nat_tests, p.inside j)) (λ i j e. grind (arith, nat_tests, p.apart i j));
    }
