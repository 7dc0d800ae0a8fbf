-- One row at fixed factors.
use Rattle.std.specs.Prelude.{◌≡◌, ℕ, ◌&&◌, List, [], ◌∷◌, ◌++◌, pos, ◌≤ℤ◌, ◌<ℤ◌, Some, None, vec_items, codes, Option}
use Rattle.std.specs.Fmt.{signed_decimal}
use Rattle.interval.specs.declared.directed.Interval.{Interval}
use Rattle.interval.specs.Directed.{nought, in_limit, within}
use Rattle.interval.specs.Refusals.{unless, or_else, Answers}
use Rattle.interval.specs.Arithmetic.{limit, sum, multiple}
use Rattle.row.specs.declared.Term.{Term}
use Rattle.row.specs.declared.Step.{Step}
use Rattle.row.specs.declared.Walk.{Walk}
use Rattle.row.specs.declared.Verdict.{Verdict}
use Rattle.row.specs.declared.Verdict.TheVariants.{Balanced, Low, High}

-- the cell times its factor, and the sum with it
abbrev pub step_of : Interval → Term → Step
step_of s t = record { multiple = multiple t.factor t.cell; sum = sum s (multiple t.factor t.cell) }

-- why a term's multiple is refused, if it is
abbrev pub multiple_refusal : Term → Option ℕ
multiple_refusal t = unless (in_limit limit t.factor && within limit t.cell) 3

-- why a term is refused after the sum s, if it is
abbrev pub refusal_of : Interval → Term → Option ℕ
refusal_of s t = or_else (multiple_refusal t) (unless (within limit s && within limit (multiple t.factor t.cell)) 3)

-- the sum of a row: of the multiples of its cells
abbrev pub row_sum : List Term → Interval
row_sum [] = nought
row_sum (t ∷ ts) = sum (multiple t.factor t.cell) (row_sum ts)

-- the first refusal among a row's terms, where the sum before them is s
abbrev pub refused_in : Interval → List Term → Option ℕ
refused_in s [] = None
refused_in s (t ∷ ts) = or_else (refusal_of s t) (refused_in (step_of s t).sum ts)

abbrev pub unless_refused : Option ℕ → List Step → List Step
unless_refused None xs = xs
unless_refused (Some n) xs = []

-- the steps before that refusal
abbrev pub steps_of : Interval → List Term → List Step
steps_of s [] = []
steps_of s (t ∷ ts) = unless_refused (refusal_of s t) (step_of s t ∷ steps_of (step_of s t).sum ts)

-- what a walk along a row gives: the steps, and the row's sum unless a term is refused
pub record Walked (ts : List Term) (w : Walk) : Type 0 where
  pub steps : vec_items w.steps ≡ steps_of nought ts
  pub end : Answers (refused_in nought ts) (row_sum ts) w.end

-- what each verdict says of a row's sum, and which number it holds
abbrev pub Judges : Verdict → Interval → Type 0
Judges Balanced s = (pos 0 ≤ℤ s.first) × (s.second ≤ℤ pos 0)
Judges (Low n) s = (n ≡ s.first) × (s.first <ℤ pos 0)
Judges (High n) s = (n ≡ s.second) × (pos 0 <ℤ s.second) × (pos 0 ≤ℤ s.first)

-- what is printed of each verdict
abbrev pub verdict_text : Verdict → List ℕ
verdict_text Balanced = codes "balanced: whatever the spreads bring, some trim brings the row to 0"
verdict_text (Low n) = codes "not balanced, LOW: where the spreads fall worst, the row stays at " ++ (signed_decimal n ++ codes " or below, whatever the trim")
verdict_text (High n) = codes "not balanced, HIGH: where the spreads fall worst, the row stays at " ++ (signed_decimal n ++ codes " or above, whatever the trim")
