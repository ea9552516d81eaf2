-- 9 and then 10: what a sheet that was read gives once its lines' names are counted.
use Prim.Native.Nat.{ℕ}
use mathlib.Core.List.{List}
use Rattle.std.specs.Prelude.{Ok, Err}
use Rattle.table.specs.declared.refusal.Refusal.{Refusal}
use Rattle.table.specs.declared.refusal.Refusal.TheVariants.{FaultyLine}
use Rattle.sheets.specs.Lines.{lines_of}
use Rattle.sheets.specs.Links.{FaultFree, SmallestFaulty, unread, faulty, fine, Loaded}
use Rattle.sheets.specs.Reading.{Answers}
use Rattle.sheets.specs.declared.Sheet.{Sheet}

module _ {text : List ℕ} where
  pub not_read : {r : Refusal} → Answers text (Err r) → Loaded text (Err r)
  not_read x = record { loads = unread x.reads; counted = tt }

  module _ {s : Sheet} (x : Answers text (Ok s)) where
    pub one_faulty : {i : ℕ} → SmallestFaulty (lines_of s) i → Loaded text (Err (FaultyLine i))
    one_faulty f = record { loads = faulty x.reads f; counted = tt }

    pub all_fine : FaultFree (lines_of s) → Loaded text (Ok s)
    all_fine f = record { loads = fine x.reads f; counted = x.counted }

-- what the proof of `load` uses
pub ruleset steps = (not_read, one_faulty)
