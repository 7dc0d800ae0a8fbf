-- Kaucher's arithmetic, for ends of any size.
use Rattle.std.specs.Prelude.{ℕ, cond, ℤ, pos, ◌+ℤ◌, ◌*ℤ◌, neg_ℤ, int_lt}
use Rattle.std.specs.Int.{int_min, int_max}
use Rattle.interval.specs.declared.directed.Interval.{Interval}
use Rattle.interval.specs.declared.classes.Class.{Class}
use Rattle.interval.specs.declared.classes.Class.TheVariants.{NonNegative as P, NonPositive as N, SpreadThroughZero as Z, TrimThroughZero as D}
use Rattle.interval.specs.Directed.{◌to◌}
use Rattle.interval.specs.Classes.{class_of}

-- the numbers that the calls take are at most this in size
abbrev pub limit : ℕ
limit = 1000000000

abbrev pub ends : Interval → ℤ × ℤ
ends x = (x.first, x.second)

abbrev pub opposite : Interval → Interval
opposite x = neg_ℤ x.second to neg_ℤ x.first

abbrev pub sum : Interval → Interval → Interval
sum x y = x.first +ℤ y.first to x.second +ℤ y.second

-- the whole number t times an interval
abbrev pub multiple : ℤ → Interval → Interval
multiple t x = cond (int_lt t (pos 0)) (x.second *ℤ t to x.first *ℤ t) (x.first *ℤ t to x.second *ℤ t)

-- the product of (a, b) and (c, d), by their classes
abbrev pub by_class : Class → Class → (a b c d : ℤ) → Interval
by_class P P a b c d = a *ℤ c to b *ℤ d
by_class P Z a b c d = b *ℤ c to b *ℤ d
by_class P N a b c d = b *ℤ c to a *ℤ d
by_class P D a b c d = a *ℤ c to a *ℤ d
by_class Z P a b c d = a *ℤ d to b *ℤ d
by_class Z Z a b c d = int_min (a *ℤ d) (b *ℤ c) to int_max (a *ℤ c) (b *ℤ d)
by_class Z N a b c d = b *ℤ c to a *ℤ c
by_class Z D a b c d = pos 0 to pos 0
by_class N P a b c d = a *ℤ d to b *ℤ c
by_class N Z a b c d = a *ℤ d to a *ℤ c
by_class N N a b c d = b *ℤ d to a *ℤ c
by_class N D a b c d = b *ℤ d to b *ℤ c
by_class D P a b c d = a *ℤ c to b *ℤ c
by_class D Z a b c d = pos 0 to pos 0
by_class D N a b c d = b *ℤ d to a *ℤ d
by_class D D a b c d = int_max (a *ℤ c) (b *ℤ d) to int_min (a *ℤ d) (b *ℤ c)

abbrev pub product : Interval → Interval → Interval
product x y = by_class (class_of x) (class_of y) x.first x.second y.first y.second
