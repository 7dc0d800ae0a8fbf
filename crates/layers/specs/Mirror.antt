-- The mirror: in a marked column a cell shows its opposite, and a held number is negated.
use Rattle.std.specs.Prelude.{◌≡◌, ℕ, Bool, false, cond, ◌&&◌, None, Option, ◌==◌, nat_lt, slice_index_or}
use Rattle.interval.specs.Arithmetic.{opposite}
use Rattle.interval.specs.Refusals.{unless}
use Rattle.system.specs.Reading.{Model}
use Rattle.layer.specs.Views.{Extent, View, layered}
use Rattle.layers.specs.declared.mirror.Mirror.{Mirror}
use Rattle.layers.specs.declared.mirror.Mark.{Mark}

-- a mirror's settings: the columns that are marked, and the count of columns that this was made for
pub record Marks : Type 0 where
  pub columns : ℕ
  pub marked : ℕ → Bool

abbrev pub marks_of : Mirror → Marks
marks_of m = record { columns = m.columns; marked = λ c. nat_lt c m.columns && slice_index_or m.marks c false }

abbrev pub no_marks : Marks
no_marks = record { columns = 0; marked = λ _. false }

-- the marks as they act over a system: none where they were made for another count
abbrev pub acts_marked : Marks → Extent → ℕ → Bool
acts_marked w e c = w.columns == e.columns && w.marked c

abbrev pub mirrored : Marks → Extent → View
mirrored w e = record { reach = e.reach; row = λ r. r; column = λ c. c; negated = acts_marked w e; shown = λ r c x. cond (acts_marked w e c) (opposite x) x; refusal = λ r c x. None; lowered = λ r c x. cond (acts_marked w e c) (opposite x) x }

-- a change marks one column, or takes its mark off
abbrev pub mark_refusal : Extent → Mark → Option ℕ
mark_refusal e change = unless (nat_lt change.column e.columns) 2

abbrev pub with_mark : Marks → Extent → Mark → Marks
with_mark w e change = record { columns = e.columns; marked = λ c. cond (c == change.column) change.marked (acts_marked w e c) }

pub record MirrorLaws : Type 0 where
  -- at first a mirror shows the system below, and so do two mirrors with the same marks
  pub at_first : (m : Model) → layered (mirrored no_marks) m ≡ m
  pub twice : (w : Marks) (m : Model) → layered (mirrored w) (layered (mirrored w) m) ≡ m
