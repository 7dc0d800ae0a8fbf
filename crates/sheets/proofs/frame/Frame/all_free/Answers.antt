use Rattle.std.proofs.Common.{◌≡◌, ℕ, None, replicate, get_or, arith}
use Rattle.std.proofs.lemmas.Bool.{cases_lt}
use Rattle.std.proofs.lemmas.List.{get_or-replicate, get_or_past, length-replicate}
use Rattle.interval.specs.Directed.{nought}
use Rattle.cells.specs.Keeping.{bottom_reach}
use Rattle.sheets.specs.Frame.{held_number}
use Rattle.sheets.proofs.frame.Frame.all_free.Goals as goal

same_at : {X : Type 0} (n k : ℕ) (x : X) → get_or (replicate n x) k x ≡ x
same_at n k x = grind (arith, cases_lt k n, get_or-replicate n k x x, get_or_past (replicate n x) k x, length-replicate n x)

pub returns : goal.returns
returns c = λ i. record { rows = c.args.counts.rows; columns = c.args.counts.columns; reach = bottom_reach; cell = λ _ _. nought; held = λ k. held_number (same_at 64 k None i) }
