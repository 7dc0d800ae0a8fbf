use Rattle.std.proofs.Common.{length}
use Rattle.pile.proofs.descent.Stack.+landing.Given as goal

abbrev pub decreases-landing : goal.decreases-landing
decreases-landing g l = length l.self.now.layers.now
