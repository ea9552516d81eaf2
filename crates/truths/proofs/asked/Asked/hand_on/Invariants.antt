-- The rows before this one are handled where they rest on the cell.
use Rattle.table.specs.Rows.{table_in}
use Rattle.truths.specs.Search.{Handled}
use Rattle.truths.proofs.Turns.{RestingBelow}
use Rattle.truths.proofs.asked.Asked.hand_on.Given as goal

abbrev pub invariant-loop-i : goal.invariant-loop-i
invariant-loop-i l = Handled (table_in l.self.rows.now) l.self.spots.now (RestingBelow (table_in l.self.rows.now) l.self.spots.now l.cell l.i) l.initial.found l.found
