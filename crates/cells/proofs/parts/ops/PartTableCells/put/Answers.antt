use Rattle.std.proofs.Common.{rules}
use Rattle.cells.proofs.Standing.{by_rewrite, by_fill}
use Rattle.cells.proofs.parts.ops.PartTableCells.put.Goals as goal

pub invariant_of-self : goal.invariant_of-self
invariant_of-self c = record { apart = (by_rewrite c.args.place c.args.self.now c.in-Some.slot _ c.args.value (search rules) c.in-Some.ensures).apart }

pub returns-in-Some-clause-changes : goal.returns-in-Some-clause-changes
returns-in-Some-clause-changes c =
    let new = by_rewrite c.args.place c.args.self.now c.in-Some.slot _ c.args.value (search rules) c.in-Some.ensures in
    (new.accepted, new.cells_are)

pub invariant_of-self-2 : goal.invariant_of-self-2
invariant_of-self-2 c = record { apart = (by_fill c.args.place c.args.self.now c.in_ok-slot.slot c.args.value c.in_default.ensures (search rules)).apart }

pub returns-clause-changes : goal.returns-clause-changes
returns-clause-changes c =
    let new = by_fill c.args.place c.args.self.now c.in_ok-slot.slot c.args.value c.in_default.ensures (search rules) in
    (new.accepted, new.cells_are)
