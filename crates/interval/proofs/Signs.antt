-- What the class of an interval says of its ends.
use Rattle.std.proofs.Common.{ℤ, arith}
use Rattle.std.proofs.lemmas.Int.{ints}
use Rattle.interval.specs.Directed.{◌to◌}
use Rattle.interval.specs.Classes.{class_of, Signs}

pub view_ends : (a b : ℤ) → Signs (class_of (a to b)) (a to b)
view_ends a b = grind (arith, ints)
