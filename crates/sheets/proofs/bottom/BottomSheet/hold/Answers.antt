use Rattle.std.proofs.Common.{rules, w64}
use Rattle.std.proofs.lemmas.Int.{to_z-of_z}
use Rattle.sheets.proofs.Held.{held_in}
use Rattle.sheets.proofs.bottom.BottomSheet.hold.Goals as goal

pub returns-clause-changes : goal.returns-clause-changes
returns-clause-changes g c = let held = rw (to_z-of_z w64 c.args.number c.ranges.number) at c.hold.ensures in search (rules, held_in)
