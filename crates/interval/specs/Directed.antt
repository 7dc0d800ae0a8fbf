-- Directed intervals: their kinds, the dual, when one lies in another, and limits on the ends.
use Rattle.std.specs.Prelude.{◌≡◌, ℕ, ◌≤◌, Bool, cond, ◌&&◌, List, ◌++◌, ℤ, pos, ◌≤ℤ◌, ◌<ℤ◌, codes, int_lt, nat_le, unsigned_abs}
use Rattle.std.specs.Fmt.{signed_decimal}
use Rattle.interval.specs.declared.directed.Interval.{Interval}
use Rattle.interval.specs.declared.directed.Kind.{Kind}
use Rattle.interval.specs.declared.directed.Kind.TheVariants.{Spread, Trim, Fixed}

-- the interval (a, b)
infix 5 ◌to◌
abbrev pub ◌to◌ : ℤ → ℤ → Interval
a to b = record { first = a; second = b }

abbrev pub nought : Interval
nought = pos 0 to pos 0

abbrev pub kind_of : Interval → Kind
kind_of x = cond (int_lt x.first x.second) Spread (cond (int_lt x.second x.first) Trim Fixed)

-- what each kind says of the ends
abbrev pub Says : Kind → Interval → Type 0
Says Spread x = x.first <ℤ x.second
Says Trim x = x.second <ℤ x.first
Says Fixed x = x.first ≡ x.second

-- what is printed of each kind and of an interval
abbrev pub kind_text : Kind → List ℕ
kind_text Spread = codes "spread"
kind_text Trim = codes "trim"
kind_text Fixed = codes "fixed"

abbrev pub ends_text : Interval → List ℕ
ends_text x = codes "(" ++ (signed_decimal x.first ++ (codes ", " ++ (signed_decimal x.second ++ codes ")")))

abbrev pub dual : Interval → Interval
dual x = x.second to x.first

abbrev pub LiesIn : Interval → Interval → Type 0
LiesIn x y = (y.first ≤ℤ x.first) × (x.second ≤ℤ y.second)

-- a number, and both ends of an interval, are at most n in size
abbrev pub in_limit : ℕ → ℤ → Bool
in_limit n z = nat_le (unsigned_abs z) n

abbrev pub within : ℕ → Interval → Bool
within n x = in_limit n x.first && in_limit n x.second

-- the same, as a fact
abbrev pub Within : ℕ → Interval → Type 0
Within n x = (unsigned_abs x.first ≤ n) × (unsigned_abs x.second ≤ n)
