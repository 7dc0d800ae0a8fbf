use Rattle.std.proofs.Common.{◌≡◌, reverse, rules}
use Rattle.std.proofs.lemmas.Fn.{fold_over}
use Rattle.std.proofs.lemmas.List.{reverse-append, reverse-reverse}
use Rattle.std.proofs.lemmas.Iterator.Adapters.{YieldsList-from_rev_slice}
use Rattle.std.specs.Iterator.Adapters.{rev_steps}
use Rattle.std.specs.Slice.Iter.{iter_steps_back}
use Rattle.layer.specs.Views.{extent_of}
use Rattle.layer.specs.Shapes.{extent}
use Rattle.pile.specs.Piles.{laid}
use Rattle.pile.proofs.descent.Stack.shape.Goals as goal

pub returns : goal.returns
returns g c =
    let view = g.L.Layer.view in
    let xs = c.args.self.now.layers.now in
    let m = g.S.System.meaning c.args.self.now.bottom.now in
    let all =
    fold_over (rev_steps iter_steps_back) (λ y. y.now) _ (λ ys a. extent a ≡ extent_of (laid view (reverse ys) m)) _ (λ ys a x b f' j k. let turned = reverse-append ys in search rules)
    c.rev.result (reverse xs) _ c.fold.result (YieldsList-from_rev_slice {s = c.rev.result} xs cc).runs (search rules) c.fold.ensures.ran in
    rw reverse-reverse at all
