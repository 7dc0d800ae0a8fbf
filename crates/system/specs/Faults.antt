-- The fault of a refused put, and what is printed of it.
use Rattle.std.specs.Prelude.{ℕ, ◌+◌, cond, List, ◌++◌, Some, None, codes, decimal, Option, nat_lt}
use Rattle.interval.specs.declared.refusals.Refusal.{Refusal}
use Rattle.interval.specs.Refusals.{refusal_of, text_of}
use Rattle.system.specs.declared.faults.PutFault.{PutFault}

-- refusal n, found at row r and column c by the topmost layer itself
abbrev pub fault_at : ℕ → ℕ → ℕ → PutFault
fault_at n r c = record { number = n; layer = 0; row = r; column = c }

-- a refusal that arises there, if there is one
abbrev pub fault_of : Option ℕ → ℕ → ℕ → Option PutFault
fault_of None r c = None
fault_of (Some n) r c = Some (fault_at n r c)

-- a fault from below as the layer above hands it up: one more layer, of which 65,535 is the last number, and nothing lost
abbrev pub raised : PutFault → PutFault
raised f = record { number = f.number; layer = cond (nat_lt f.layer 65535) (f.layer + 1) 65535; row = f.row; column = f.column }

-- the words of a refusal, if there is one, and the layer and the place
abbrev pub placed_text : Option Refusal → (layer row column : ℕ) → List ℕ
placed_text (Some e) layer row column = text_of e ++ (codes " (layer " ++ (decimal layer ++ (codes ", row " ++ (decimal row ++ (codes ", column " ++ (decimal column ++ codes ")"))))))
placed_text None layer row column = codes "layer " ++ (decimal layer ++ (codes ", row " ++ (decimal row ++ (codes ", column " ++ decimal column))))

abbrev pub fault_text : PutFault → List ℕ
fault_text f = placed_text (refusal_of f.number) f.layer f.row f.column
