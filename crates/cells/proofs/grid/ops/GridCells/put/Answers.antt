use Rattle.std.proofs.Common.{ltb, refl, arith}
use Rattle.std.proofs.lemmas.Bool.{lt-ltb}
use Rattle.cells.specs.Grid.{grid_slot}
use Rattle.cells.proofs.Slotted.{slotted_set, grid_alone}
use Rattle.cells.proofs.grid.ops.GridCells.put.Goals as goal

pub returns-clause-changes : goal.returns-clause-changes
returns-clause-changes c =
    let g = c.args.self.now in
    let r = c.args.place.row in
    let k = c.args.place.column in
    let rows = c.args.place.few_rows in
    let columns = c.args.place.few_columns in
    let whole = g.all in
    let ok = g.cells.ok.0 in
    (refl, slotted_set (λ _ j. ltb j 64) grid_slot g.cells.items r k _ c.args.value c.slot.ensures (lt-ltb k 64 columns) (omega arith) (grid_alone r k columns))
