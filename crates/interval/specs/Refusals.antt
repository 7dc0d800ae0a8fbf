-- Each refusal's number, and what a call answers by it.
use Rattle.std.specs.Prelude.{◌≡◌, ℕ, Bool, cond, List, Some, None, Ok, Err, ◌++◌, codes, decimal, Option, Result, ◌==◌}
use Rattle.interval.specs.declared.refusals.Refusal.{Refusal}
use Rattle.interval.specs.declared.refusals.NoSuchRefusal.{NoSuchRefusal}
use Rattle.interval.specs.declared.refusals.Refusal.TheVariants.{NoSuchPlace, OutsideLimit, NotKept, PartsFull}

abbrev pub number_of : Refusal → ℕ
number_of NoSuchPlace = 2
number_of OutsideLimit = 3
number_of NotKept = 5
number_of PartsFull = 6

abbrev pub refusal_of : ℕ → Option Refusal
refusal_of n = cond (n == 2) (Some NoSuchPlace) (cond (n == 3) (Some OutsideLimit) (cond (n == 5) (Some NotKept) (cond (n == 6) (Some PartsFull) None)))

-- the refusal whose number is n, or that number where none has it
abbrev pub Numbered : ℕ → Result Refusal NoSuchRefusal → Type 0
Numbered n (Ok e) = (refusal_of n ≡ Some e) × (number_of e ≡ n)
Numbered n (Err u) = (refusal_of n ≡ None) × (u.0 ≡ n) × ((e : Refusal) → ¬ (number_of e ≡ n))

-- what is printed of it
abbrev pub text_of : Refusal → List ℕ
text_of NoSuchPlace = codes "there is no such row or column"
text_of OutsideLimit = codes "a number is outside its limit"
text_of NotKept = codes "the banded sheet does not keep that cell"
text_of PartsFull = codes "the parts sheet is full"

abbrev pub no_such_text : ℕ → List ℕ
no_such_text n = codes "no refusal has the number " ++ decimal n

-- the refusal n, unless a test is met
abbrev pub unless : Bool → ℕ → Option ℕ
unless met n = cond met None (Some n)

-- the first refusal, or else the second
abbrev pub or_else : Option ℕ → Option ℕ → Option ℕ
or_else None next = next
or_else (Some n) next = Some n

-- what a call answers: its refusal, if there is one, and otherwise a value of which something is true
abbrev pub Gives : {V : Type 0} → Option ℕ → (V → Type 0) → Result V Refusal → Type 0
Gives refusal Is (Ok v) = (refusal ≡ None) × Is v
Gives refusal Is (Err e) = refusal ≡ Some (number_of e)

-- the same, where one value is the answer
abbrev pub Answers : {V : Type 0} → Option ℕ → V → Result V Refusal → Type 0
Answers refusal v = Gives refusal (λ w. w ≡ v)

-- what a call that changes something does: refused, it leaves it as it was before, and otherwise it makes the change
abbrev pub Changes : {M : Type 0} → Option ℕ → (M → M) → (before after : M) → Result (Unit {0}) Refusal → Type 0
Changes refusal change before after (Ok _) = (refusal ≡ None) × (after ≡ change before)
Changes refusal change before after (Err e) = (refusal ≡ Some (number_of e)) × (after ≡ before)
