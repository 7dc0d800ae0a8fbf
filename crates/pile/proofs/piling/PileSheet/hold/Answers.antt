use Rattle.std.proofs.Common.{Some, rules}
use Rattle.system.specs.Writing.{state}
use Rattle.pile.proofs.Layers.{changes_landed, same_number}
use Rattle.pile.proofs.piling.PileSheet.hold.Goals as goal

pub returns : goal.returns
returns g c =
    let column = rw (c.stack-stack.ensures.0, c.stack-stack.ensures.1) at c.landing-landing.ensures in
    let before = state (g.S.System.meaning c.args.self.now.bottom) (g.S.Sheet.refuses c.args.self.now.bottom) in
    let after = state (g.S.System.meaning c.hold.new.self) (g.S.Sheet.refuses c.hold.new.self) in
    let below = same_number c.landing-landing.result.negated c.args.number c.signed.result (search rules) (search rules) before after c.landing-landing.result.column c.hold.result (search rules) in
    changes_landed g.L.Layer.view g.met.L.Layer.lawful c.args.self.now.layers.items _ _ c.args.column (Some c.args.number) _ column _ below
