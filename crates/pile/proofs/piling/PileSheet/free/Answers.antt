use Rattle.std.proofs.Common.{None, rules}
use Rattle.pile.proofs.Layers.{changes_landed}
use Rattle.pile.proofs.piling.PileSheet.free.Goals as goal

pub returns : goal.returns
returns g c =
    let column = rw (c.stack-stack.ensures.0, c.stack-stack.ensures.1) at c.landing-landing.ensures in
    changes_landed g.L.Layer.view g.met.L.Layer.lawful c.args.self.now.layers.items _ _ c.args.column None _ column _ (search rules)
