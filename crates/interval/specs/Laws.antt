-- The laws of Kaucher's arithmetic. The contract of a call names each.
use Rattle.std.specs.Prelude.{◌≡◌, ℕ, ◌⊎◌, ℤ, pos, ◌-ℤ◌, ◌*ℤ◌, neg_ℤ, ◌≤ℤ◌}
use Rattle.std.specs.Int.{int_min, int_max}
use Rattle.interval.specs.declared.directed.Interval.{Interval}
use Rattle.interval.specs.declared.classes.Class.{Class}
use Rattle.interval.specs.declared.classes.Class.TheVariants.{NonNegative as P, NonPositive as N}
use Rattle.interval.specs.Directed.{◌to◌, dual, LiesIn}
use Rattle.interval.specs.Arithmetic.{by_class, opposite, sum, multiple, product}

-- a spread or fixed interval
abbrev pub Proper : Interval → Type 0
Proper x = x.first ≤ℤ x.second

-- the least and the greatest of the four products of ends
abbrev pub four_products : Interval → Interval → Interval
four_products x y =
    int_min (int_min (x.first *ℤ y.first) (x.first *ℤ y.second)) (int_min (x.second *ℤ y.first) (x.second *ℤ y.second))
    to int_max (int_max (x.first *ℤ y.first) (x.first *ℤ y.second)) (int_max (x.second *ℤ y.first) (x.second *ℤ y.second))

-- the positive part of a number and its negative part, of which it is the difference
abbrev pub plus : ℤ → ℤ
plus z = int_max z (pos 0)

abbrev pub minus : ℤ → ℤ
minus z = int_max (neg_ℤ z) (pos 0)

-- Lakeyev's formula for the first end of a product: no classes, one expression at every sign
abbrev pub first_by_parts : Interval → Interval → ℤ
first_by_parts x y =
    int_max (plus x.first *ℤ plus y.first) (minus x.second *ℤ minus y.second)
    -ℤ int_max (plus x.second *ℤ minus y.first) (minus x.first *ℤ plus y.second)

pub record SumLaws : Type 0 where
  pub commutes : (x y : Interval) → sum x y ≡ sum y x
  pub of_duals : (x y : Interval) → dual (sum x y) ≡ sum (dual x) (dual y)

pub record ProductLaws : Type 0 where
  pub commutes : (x y : Interval) → product x y ≡ product y x
  pub of_duals : (x y : Interval) → dual (product x y) ≡ product (dual x) (dual y)
  pub of_opposite : (x y : Interval) → product (opposite x) y ≡ opposite (product x y)
  pub left_order : (x y z : Interval) → LiesIn x y → LiesIn (product x z) (product y z)
  pub right_order : (x y z : Interval) → LiesIn y z → LiesIn (product x y) (product x z)
  pub of_proper : (x y : Interval) → Proper x → Proper y → product x y ≡ four_products x y
  -- (0, 0) is of two classes, and the table gives the same by either
  pub zero_by_either : (k : Class) (a b : ℤ) → (by_class P k (pos 0) (pos 0) a b ≡ by_class N k (pos 0) (pos 0) a b) × (by_class k P a b (pos 0) (pos 0) ≡ by_class k N a b (pos 0) (pos 0))
  pub by_parts : (x y : Interval) → product x y ≡ (first_by_parts x y to first_by_parts (dual x) (dual y))

-- n is lo, hi, or 0 between them
abbrev pub Corner : (lo hi n : ℤ) → Type 0
Corner lo hi n = (lo ≤ℤ n) × (n ≤ℤ hi) × ((n ≡ lo) ⊎ ((n ≡ pos 0) ⊎ (n ≡ hi)))

-- the multiples of c by the numbers from lo to hi, against the product of c and (lo, hi)
pub record MultipleLaws : Type 0 where
  pub is_product : (t : ℤ) (c : Interval) → multiple t c ≡ product (t to t) c
  -- no whole n gives a lower first end, or a higher second end
  pub bounded : (c : Interval) (lo hi n : ℤ) → lo ≤ℤ n → n ≤ℤ hi → LiesIn (multiple n c) (product c (lo to hi))
  -- nor does a fraction n over e: n times c lies in e times the product
  pub bounded_over : (c : Interval) (lo hi n : ℤ) (e : ℕ) → (lo *ℤ pos e) ≤ℤ n → n ≤ℤ (hi *ℤ pos e) → LiesIn (multiple n c) (multiple (pos e) (product c (lo to hi)))
  -- each end is reached
  pub first_reached : (c : Interval) (lo hi : ℤ) → lo ≤ℤ hi → (n : ℤ) × Corner lo hi n × ((multiple n c).first ≡ (product c (lo to hi)).first)
  pub second_reached : (c : Interval) (lo hi : ℤ) → lo ≤ℤ hi → (n : ℤ) × Corner lo hi n × ((multiple n c).second ≡ (product c (lo to hi)).second)
