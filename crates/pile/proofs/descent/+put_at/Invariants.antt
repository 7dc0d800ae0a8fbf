use Rattle.std.proofs.Common.{length}
use Rattle.pile.proofs.descent.+put_at.Given as goal

abbrev pub decreases-put_at : goal.decreases-put_at
decreases-put_at g l = length l.layers.now
