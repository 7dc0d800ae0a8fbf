use Rattle.std.proofs.Common.{◌≡◌, ℕ, ◌<◌, rules, tests, arith}
use Rattle.std.proofs.lemmas.Iterator.{cases_from_all, YieldsList-from_range}
use Rattle.system.proofs.Every.{every_below}
use Rattle.system.proofs.comparison.same_row.Goals as goal

pub returns : goal.returns
returns g c =
    let m = g.A.System.meaning c.args.a.now in
    let n = g.B.System.meaning c.args.b.now in
    let r = c.args.row in
    let Equal : ℕ → Type 0 = λ k. k < m.columns → m.cell r k ≡ n.cell r k in
    let each = every_below Equal m.columns c.all.result (cases_from_all _ _ _ Equal (λ k. ¬ (Equal k)) c.all.ensures.ran (YieldsList-from_range 0 m.columns m.columns (search rules) (omega arith)) (λ k q h. (search (rules, tests), λ less. search (rules, tests))) (λ k q h equal. search (rules, tests))) in
    (λ h k less. each.0 h k less less, λ same. each.1 (λ k _. same k))
