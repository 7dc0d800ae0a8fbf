-- A walk along a row: what is so after some of its terms.
use Rattle.std.proofs.Common.{◌≡◌, List, ◌++◌, ap₂, arith}
use Rattle.std.proofs.lemmas.Int.{ints}
use Rattle.interval.specs.declared.directed.Interval.{Interval}
use Rattle.interval.specs.Directed.{◌to◌, nought}
use Rattle.interval.specs.Arithmetic.{sum}
use Rattle.row.specs.declared.Term.{Term}
use Rattle.row.specs.declared.Step.{Step}
use Rattle.row.specs.Row.{row_sum, refused_in, steps_of}

pub sum_assoc : (x y z : Interval) → sum x (sum y z) ≡ sum (sum x y) z
sum_assoc x y z = ap₂ ◌to◌ (omega (arith, ints)) (omega (arith, ints))

-- the row ts from nought on is the steps so far, and the rest of it from the sum s so far on
pub record Onward (ts : List Term) (steps : List Step) (s : Interval) (rest : List Term) : Type 0 where
  pub steps_are : steps_of nought ts ≡ steps ++ steps_of s rest
  pub refusal_is : refused_in nought ts ≡ refused_in s rest
  pub total_is : sum nought (row_sum ts) ≡ sum s (row_sum rest)
