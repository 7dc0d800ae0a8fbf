use Rattle.std.proofs.Common.{rules}
use Rattle.sheets.proofs.Held.{held_in}
use Rattle.sheets.proofs.bottom.BottomSheet.free.Goals as goal

pub returns-clause-changes : goal.returns-clause-changes
returns-clause-changes g c = search (rules, held_in)
