-- The parts sheet: it keeps up to 128 cells that are not (0, 0).
use Rattle.cells.specs.declared.parts.PartTable.{PartTable}
use Rattle.cells.specs.contracts.parts.ops.PartTableCells.TheImpl.{ghosts}
use Rattle.sheets.specs.declared.bottom.Bottom.{Bottom}
use Rattle.sheets.specs.Bottom.{Ruled, bottom_of}

-- by the members that its cells have as an implementation
abbrev pub parts : Bottom PartTable → Ruled
parts = bottom_of ghosts.cell ghosts.rule
