-- The place that every sheet has.
use Rattle.std.specs.Prelude.{◌<◌}
use Rattle.std.proofs.Common.{arith}
use Rattle.system.specs.declared.places.Place.{Place}
use Rattle.system.specs.Reading.{max_count}

pub some_places : 0 < max_count
some_places = omega arith

abbrev pub corner : Place
corner = record { row = 0; column = 0; few_rows = some_places; few_columns = some_places }
