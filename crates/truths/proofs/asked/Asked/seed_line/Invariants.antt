-- The rows before this one are handled at the line.
use Rattle.table.specs.Rows.{table_in}
use Rattle.truths.specs.Search.{Handled}
use Rattle.truths.proofs.Turns.{RowsBelow}
use Rattle.truths.proofs.asked.Asked.seed_line.Given as goal

abbrev pub invariant-loop-row : goal.invariant-loop-row
invariant-loop-row l = Handled (table_in l.self.rows.now) l.self.spots.now (RowsBelow l.line l.row) l.initial.found l.found
