use Rattle.std.proofs.Common.{arith}
use Rattle.std.proofs.lemmas.Bool.Decides.{nat_tests}
use Rattle.pile.specs.Laws.{bounded_laid}
use Rattle.pile.proofs.descent.Stack.+cell.Goals as goal

pub within_limit-requires : goal.within_limit-requires
within_limit-requires g t c =
    let s = c.in-Some.rest in
    let below = bounded_laid g.L.Layer.view g.met.L.Layer.lawful s.layers.now (g.S.System.meaning s.bottom.now) (g.met.S.System.bounded s.bottom.now) in
    grind (arith, nat_tests, below.cells, below.small_reach)
