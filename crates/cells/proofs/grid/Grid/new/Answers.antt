use Rattle.std.proofs.Common.{ltb, refl}
use Rattle.cells.specs.Grid.{grid_slot}
use Rattle.cells.specs.declared.grid.ops.TheConstants.{SIZE}
use Rattle.cells.proofs.Slotted.{slotted_blank}
use Rattle.cells.proofs.grid.Grid.new.Goals as goal

pub returns : goal.returns
returns c = slotted_blank (λ _ j. ltb j 64) grid_slot _ SIZE _ refl (c.in_ok-vec.ensures.items_if_clones_equal (λ y h. h))
