use Rattle.std.proofs.Common.{rules, tests, arith}
use Rattle.std.proofs.lemmas.Iterator.{cases_from_all, YieldsList-from_range}
use Rattle.system.specs.Comparison.{SameRow}
use Rattle.system.proofs.Every.{every_below}
use Rattle.system.proofs.comparison.same.Goals as goal

pub returns-then-columns : goal.returns-then-columns
returns-then-columns g c =
    let m = g.A.System.meaning c.args.a.now in
    let n = g.B.System.meaning c.args.b.now in
    let each = every_below (SameRow m n) m.rows c.all.result (cases_from_all _ _ _ (SameRow m n) (λ k. ¬ (SameRow m n k)) c.all.ensures.ran (YieldsList-from_range 0 m.rows m.rows (search rules) (omega arith)) (λ k q h. search (rules, tests)) (λ k q h. search (rules, tests))) in
    (λ h. (search rules, search rules, each.0 h), λ same. each.1 same.2)
