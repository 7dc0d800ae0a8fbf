-- The four sign classes.
use Rattle.std.specs.Prelude.{cond, ◌&&◌, pos, ◌≤ℤ◌, ◌<ℤ◌, int_le, int_lt}
use Rattle.interval.specs.declared.directed.Interval.{Interval}
use Rattle.interval.specs.declared.classes.Class.{Class}
use Rattle.interval.specs.declared.classes.Class.TheVariants.{NonNegative, NonPositive, SpreadThroughZero, TrimThroughZero}

-- what each class says of the ends
abbrev pub Signs : Class → Interval → Type 0
Signs NonNegative x = (pos 0 ≤ℤ x.first) × (pos 0 ≤ℤ x.second)
Signs NonPositive x = (x.first ≤ℤ pos 0) × (x.second ≤ℤ pos 0)
Signs SpreadThroughZero x = (x.first <ℤ pos 0) × (pos 0 <ℤ x.second)
Signs TrimThroughZero x = (pos 0 <ℤ x.first) × (x.second <ℤ pos 0)

-- both ends at least 0, both at most 0, first < 0 < second, first > 0 > second
abbrev pub class_of : Interval → Class
class_of x =
    cond (int_le (pos 0) x.first && int_le (pos 0) x.second) NonNegative
    (cond (int_le x.first (pos 0) && int_le x.second (pos 0)) NonPositive
    (cond (int_lt x.first (pos 0)) SpreadThroughZero TrimThroughZero))
