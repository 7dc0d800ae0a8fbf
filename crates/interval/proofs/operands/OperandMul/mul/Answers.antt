use Rattle.std.proofs.Common.{rules}
use Rattle.std.proofs.lemmas.Int.{fits_signed_mul}
use Rattle.interval.proofs.operands.OperandMul.mul.Goals as goal

pub returns : goal.returns
returns c = search (rules, fits_signed_mul)
