-- The lines before this one are handled.
use Rattle.table.specs.Rows.{table_in}
use Rattle.truths.specs.Search.{Handled}
use Rattle.truths.proofs.Turns.{LinesBelow}
use Rattle.truths.proofs.asked.Asked.seed.Given as goal

abbrev pub invariant-loop-line : goal.invariant-loop-line
invariant-loop-line l = Handled (table_in l.self.rows.now) l.self.spots.now (LinesBelow l.line) l.initial.found l.found
