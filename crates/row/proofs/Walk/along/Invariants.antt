use Rattle.std.proofs.Common.{drop, vec_items}
use Rattle.row.proofs.Onward.{Onward}
use Rattle.row.proofs.Walk.along.Given as goal

abbrev pub invariant-loop-term : goal.invariant-loop-term
invariant-loop-term l = Onward l.terms (vec_items l.steps) l.sum (drop l.term-index l.terms)
