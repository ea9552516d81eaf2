-- From the pairs that the rules give to what is judged.
use Prim.Native.Nat.{ℕ}
use mathlib.Core.Bool.{Bool}
use mathlib.Core.List.{List}
use mathlib.Core.Path.{◌≡◌}
use lib.ListN.{length}
use Rattle.std.specs.Prelude.{Some, None}
use Rattle.meaning.specs.Loop.{LoopFree}
use Rattle.meaning.specs.Table.{InRange}
use Rattle.table.specs.Rows.{table_in}
use Rattle.table.specs.declared.Row as T
use Rattle.counts.proofs.Laws.{table_long}
use Rattle.loops.specs.Closing.{Sound, AllDone, first_marked}
use Rattle.loops.specs.Judged.{Judged, Looping, looping}
use Rattle.loops.proofs.Closed.{smallest, none_looping}
use Rattle.loops.proofs.Exists.{marks_of}

-- `xs` are the rows that the pairs have, which are the table's
module _ (rows xs : List T.Row) (m : List (List Bool)) (same : xs ≡ rows) (sound : Sound (table_in xs) m) (range : InRange (table_in rows)) (closed : AllDone (table_in rows) m) where
  pub judged_looping : (i : ℕ) → first_marked (length xs) m ≡ Some i → Judged (table_in rows) (Looping i)
  judged_looping i e =
      looping range (smallest (table_in rows) m range closed i (marks_of (table_in rows) range m (rw same at sound)) (rw (same, ← (table_long rows)) at e))

  pub loop_free : first_marked (length xs) m ≡ None → LoopFree (table_in rows)
  loop_free e = none_looping (table_in rows) m range closed (rw (same, ← (table_long rows)) at e)
