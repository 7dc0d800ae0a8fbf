-- The turnover: it turns over each cell.
use Rattle.std.specs.Prelude.{◌≡◌, false, None}
use Rattle.interval.specs.Directed.{dual}
use Rattle.system.specs.Reading.{Model}
use Rattle.layer.specs.Views.{Extent, View, layered}

abbrev pub turned : Extent → View
turned e = record { reach = e.reach; row = λ r. r; column = λ c. c; negated = λ _. false; shown = λ r c x. dual x; refusal = λ r c x. None; lowered = λ r c x. dual x }

-- two turnovers show the system below
abbrev pub TurnoverLaw : Type 0
TurnoverLaw = (m : Model) → layered turned (layered turned m) ≡ m
