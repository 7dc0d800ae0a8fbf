-- A change of a part is a change of the whole.
use Rattle.std.proofs.Common.{◌≡◌, ℕ, Option, Result, Ok, Err, ap, ◌∙◌}
use Rattle.interval.specs.declared.refusals.Refusal.{Refusal}
use Rattle.interval.specs.Refusals.{Changes}

pub changes_in : {M N : Type 0} (whole : M → N) (refusal : Option ℕ) (change : M → M) (change_whole : N → N) (before after : M) (r : Result (Unit {0}) Refusal) → ((m : M) → whole (change m) ≡ change_whole (whole m)) → Changes refusal change before after r → Changes refusal change_whole (whole before) (whole after) r
changes_in whole refusal change change_whole before after (Ok _) same h = (h.0, ap whole h.1 ∙ same before)
changes_in whole refusal change change_whole before after (Err e) same h = (h.0, ap whole h.1)
