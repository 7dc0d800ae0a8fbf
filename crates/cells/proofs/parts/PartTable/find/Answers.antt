use Rattle.std.proofs.Common.{◌≡◌, true, false, rules, tests}
use Rattle.std.proofs.lemmas.Iterator.{YieldsList-from_slice, IsFirst-from_position}
use Rattle.cells.specs.Slots.{stands_at}
use Rattle.cells.proofs.Standing.{found_first}
use Rattle.cells.proofs.parts.PartTable.find.Goals as goal

pub returns : goal.returns
returns c =
    let r = c.args.place.row in
    let k = c.args.place.column in
    found_first r k c.args.self.now.parts c.position.result (search rules) (IsFirst-from_position _ _ _ (λ p. stands_at r k p ≡ true) (λ p. stands_at r k p ≡ false) c.position.ensures.ran (YieldsList-from_slice c.args.self.now.parts cc) (λ x q h. search (rules, tests)) (λ x q h. search (rules, tests)))
