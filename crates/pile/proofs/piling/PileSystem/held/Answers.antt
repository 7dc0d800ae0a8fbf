use Rattle.std.proofs.Common.{arith}
use Rattle.std.proofs.lemmas.Grind.{common_steps}
use Rattle.std.proofs.lemmas.Bool.Decides.{nat_tests}
use Rattle.pile.proofs.Layers.{has_landed, held_landed}
use Rattle.pile.proofs.piling.PileSystem.held.Goals as goal

pub returns-in_err-number : goal.returns-in_err-number
returns-in_err-number g c = grind (arith, common_steps, has_landed g.L.Layer.view g.met.L.Layer.lawful)

pub returns : goal.returns
returns g c =
    let near = (g.met.S.System.bounded c.args.self.now.bottom).numbers c.landing-landing.result.column in
    grind (arith, common_steps, nat_tests, held_landed, has_landed g.L.Layer.view g.met.L.Layer.lawful)
