-- No rows are in order, and a text is answered by what reading refuses, or else by the judgement of the table that it gives.
use Prim.Native.Nat.{ℕ}
use native.Mathlib.Omega.{arith}
use mathlib.Core.Bool.{Bool, true, false}
use mathlib.Core.List.{List, []}
use mathlib.Core.Path.{◌≡◌, refl, ap}
use lib.ListN.{length, replicate}
use Rattle.std.specs.Prelude.{Ok, Err}
use Rattle.meaning.specs.Table as M
use Rattle.table.specs.Rows.{rows_of}
use Rattle.table.specs.declared.Table.{Table}
use Rattle.table.specs.declared.refusal.Refusal.{Refusal}
use Rattle.counts.specs.Order.{Ordered}
use Rattle.counts.proofs.Grown.{zeros}
use Rattle.counts.proofs.Rank.{refers_there}
use Rattle.reader.specs.Reading.{Answers}
use Rattle.loops.specs.Faults.{as_refusal}
use Rattle.loops.specs.Handed.{checked}
use Rattle.loops.specs.Judged.{Fine, Judged}
use Rattle.loops.specs.declared.Fault.{Fault}
use Rattle.loops.specs.declared.Fault.TheVariants as F
use Rattle.intake.specs.Loading.{table, unread, judged, Answered}

-- no rows are in any order that is 0 throughout
pub ordered_none : {rows : M.Table} → rows ≡ [] → Ordered rows (replicate M.row_limit 0)
ordered_none e =
    let l = ap length e in
    record {
      place = λ i. 0;
      there = λ i h. absurd (omega arith);
      stands = λ i h. absurd (omega arith);
      before = λ i j r. absurd (omega (arith, refers_there i r));
      rows_only = λ k h. absurd (omega arith);
      rest = λ k h. zeros M.row_limit k;
    }

module _ {text : List ℕ} where
  pub unread_by : (sized : Bool) (e r : Refusal) → e ≡ r → Answers text (Err r) → Answered sized text (Err e)
  unread_by sized e r q a = rw q (record { takes = unread a.reads refl; counted = tt })

  module _ (t : Table) (a : Answers text (Ok t)) where
    pub passed : (sized : Bool) (order : List ℕ) → Judged (table (rows_of t)) Fine → Answered sized text (Ok (record { table = t; order = order }))
    passed sized order j = record { takes = judged a.reads j refl; counted = a.counted }

    -- what `load` says of a fault
    pub not_loaded : (f : Fault) (e : Refusal) → e ≡ as_refusal f → Judged (table (rows_of t)) (checked (Err f)) → Answered true text (Err e)
    not_loaded (F.Missing i) e q j = rw q (record { takes = judged a.reads j refl; counted = tt })
    not_loaded (F.Looping i) e q j = rw q (record { takes = judged a.reads j refl; counted = tt })
    not_loaded (F.Large order) e q j = rw q (record { takes = judged a.reads j refl; counted = tt })

    -- and what `admit` says, which lets a table of any size pass
    pub not_admitted : (f : Fault) (e : Refusal) → ((order : List ℕ) → f ≡ F.Large order → ⊥) → e ≡ as_refusal f → Judged (table (rows_of t)) (checked (Err f)) → Answered false text (Err e)
    not_admitted (F.Missing i) e n q j = rw q (record { takes = judged a.reads j refl; counted = tt })
    not_admitted (F.Looping i) e n q j = rw q (record { takes = judged a.reads j refl; counted = tt })
    not_admitted (F.Large order) e n q j = absurd (n order refl)

    pub large_passed : (f : Fault) (order : List ℕ) → f ≡ F.Large order → Judged (table (rows_of t)) (checked (Err f)) → Answered false text (Ok (record { table = t; order = order }))
    large_passed f order q j = record { takes = judged a.reads (rw q at j) refl; counted = a.counted }
