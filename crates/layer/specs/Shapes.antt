-- What a layer is told of the system below.
use Rattle.layer.specs.declared.shapes.Shape.{Shape}
use Rattle.layer.specs.Views.{Extent}

abbrev pub extent : Shape → Extent
extent s = record { rows = s.counts.rows; columns = s.counts.columns; reach = s.reach }
