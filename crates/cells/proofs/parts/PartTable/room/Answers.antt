use Rattle.std.proofs.Common.{◌≡◌, true, false, rules, tests}
use Rattle.std.proofs.lemmas.Iterator.{YieldsList-from_slice, IsFirst-from_position}
use Rattle.cells.specs.Slots.{is_empty}
use Rattle.cells.proofs.Standing.{room_first}
use Rattle.cells.proofs.parts.PartTable.room.Goals as goal

pub returns : goal.returns
returns c = room_first c.args.self.now c.position.result (search rules) (IsFirst-from_position _ _ _ (λ p. is_empty p ≡ true) (λ p. is_empty p ≡ false) c.position.ensures.ran (YieldsList-from_slice c.args.self.now.parts cc) (λ x q h. search (rules, tests)) (λ x q h. search (rules, tests)))
