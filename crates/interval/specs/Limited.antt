-- The interval of two numbers within a limit.
use Rattle.std.specs.Prelude.{ℕ}
use Rattle.interval.specs.declared.directed.Interval.{Interval}
use Rattle.interval.specs.declared.limited.Limited.{Limited}
use Rattle.interval.specs.Directed.{◌to◌}

abbrev pub interval_of : {n : ℕ} → Limited n → Interval
interval_of x = x.first.value to x.second.value
