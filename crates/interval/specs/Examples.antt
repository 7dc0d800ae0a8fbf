-- Worked examples, as one fact about the definitions.
use Rattle.std.specs.Prelude.{◌≡◌, pos, neg_ℤ}
use Rattle.interval.specs.Directed.{◌to◌}
use Rattle.interval.specs.Arithmetic.{product}

abbrev pub Examples : Type 0
Examples =
    (product (pos 2 to pos 3) (pos 5 to pos 7) ≡ (pos 10 to pos 21))
    × (product (pos 1 to neg_ℤ (pos 1)) (neg_ℤ (pos 1) to pos 1) ≡ (pos 0 to pos 0))
    × (product (neg_ℤ (pos 2) to pos 3) (neg_ℤ (pos 4) to pos 5) ≡ (neg_ℤ (pos 12) to pos 15))
    × (product (pos 1 to neg_ℤ (pos 2)) (pos 3 to neg_ℤ (pos 4)) ≡ (pos 8 to neg_ℤ (pos 6)))
