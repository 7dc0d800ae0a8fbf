-- The banded sheet: it keeps the cells near the diagonal, and the last column.
use Rattle.cells.specs.declared.band.Band.{Band}
use Rattle.cells.specs.contracts.band.ops.BandCells.TheImpl.{ghosts}
use Rattle.sheets.specs.declared.bottom.Bottom.{Bottom}
use Rattle.sheets.specs.Bottom.{Ruled, bottom_of}

-- by the members that its cells have as an implementation
abbrev pub banded : Bottom Band → Ruled
banded = bottom_of ghosts.cell ghosts.rule
