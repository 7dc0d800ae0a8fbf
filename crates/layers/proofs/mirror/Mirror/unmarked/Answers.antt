use Rattle.std.proofs.Common.{◌≡◌, ℕ, ◌≤◌, false, ◌&&◌, ltb, get_or, replicate, arith}
use Rattle.std.proofs.lemmas.Bool.Decides.{nat_tests}
use Rattle.std.proofs.lemmas.List.{get_or-replicate}
use Rattle.layers.proofs.mirror.Mirror.unmarked.Goals as goal

none_marked : (n size k : ℕ) → n ≤ size → (ltb k n && get_or (replicate size false) k false) ≡ false
none_marked n size k few = grind (arith, nat_tests, get_or-replicate size k false false)

pub returns-clause-marked : goal.returns-clause-marked
returns-clause-marked c = λ k. none_marked c.args.columns 64 k c.requires
