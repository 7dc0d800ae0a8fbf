-- Why every cell that is read from a table of parts is within the reach. The proof of a trait's law cites it, and such a proof
-- may cite no file of proofs/.
use Rattle.std.specs.Prelude.{ℕ, List, [], ◌∷◌}
use Rattle.std.proofs.Common.{arith}
use Rattle.std.proofs.lemmas.Bool.Decides.{nat_tests}
use Rattle.interval.specs.Directed.{Within}
use Rattle.cells.specs.declared.parts.part.Part.{Part}
use Rattle.cells.specs.Keeping.{bottom_reach}
use Rattle.cells.specs.Slots.{cell_in}

pub near_cell : (ps : List Part) (r c : ℕ) → Within bottom_reach (cell_in ps r c)
near_cell [] r c = omega arith
near_cell (p ∷ ps) r c = grind (arith, nat_tests, p.value.first.near, p.value.second.near, near_cell ps r c)
