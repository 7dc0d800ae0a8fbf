-- The full sheet: it takes every cell.
use Rattle.cells.specs.declared.grid.Grid.{Grid}
use Rattle.cells.specs.contracts.grid.ops.GridCells.TheImpl.{ghosts}
use Rattle.sheets.specs.declared.bottom.Bottom.{Bottom}
use Rattle.sheets.specs.Bottom.{Ruled, bottom_of}

-- by the members that its cells have as an implementation
abbrev pub full : Bottom Grid → Ruled
full = bottom_of ghosts.cell ghosts.rule
