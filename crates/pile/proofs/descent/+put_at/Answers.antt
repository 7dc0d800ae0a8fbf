use Rattle.std.proofs.Common.{◌≡◌, Ok, rules, arith}
use Rattle.std.proofs.lemmas.Grind.{common_steps}
use Rattle.system.specs.Writing.{state}
use Rattle.pile.specs.Piles.{piled}
use Rattle.pile.proofs.Layers.{put_over, handed_up}
use Rattle.pile.proofs.descent.+put_at.Goals as goal

pub returns : goal.returns
returns g t c =
    let view = g.L.Layer.view in
    let top = c.in-Some.top.now in
    let before = piled view c.in-Some.rest.now (state (g.S.System.meaning c.args.bottom.now) (g.S.Sheet.refuses c.args.bottom.now)) in
    let after = piled view c.in-Some.rest.now (state (g.S.System.meaning c.put_at.new.bottom) (g.S.Sheet.refuses c.put_at.new.bottom)) in
    let below = rw (c.new.ensures.0, c.new.ensures.1) at c.shape-below.ensures in
    let goes : c.lower-lowered.result ≡ Ok c.in_ok-lowered.lowered = grind (arith, common_steps) in
    let up : c.map_err-2.result ≡ handed_up c.put_at.result = search rules in
    rw (c.in-Some.ensures.cases.0, up)
    (put_over (view top) before after (g.met.L.Layer.lawful top _) _ below c.args.put.row c.args.put.column c.args.put.value _ (rw goes at c.lower-lowered.ensures) _ c.put_at.ensures)
