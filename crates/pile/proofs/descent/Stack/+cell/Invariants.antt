use Rattle.std.proofs.Common.{length}
use Rattle.pile.proofs.descent.Stack.+cell.Given as goal

abbrev pub decreases-cell : goal.decreases-cell
decreases-cell g l = length l.self.now.layers.now
