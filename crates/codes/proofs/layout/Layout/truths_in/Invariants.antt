-- The rows whose turn has been are worked out.
use Rattle.std.proofs.Common.{◌≡◌, length}
use Rattle.table.specs.Rows.{table_in}
use Rattle.codes.proofs.Passing.{Passed}
use Rattle.codes.proofs.layout.Layout.truths_in.Given as goal

abbrev pub invariant-loop-row : goal.invariant-loop-row
invariant-loop-row l = (length l.truths ≡ 48) × Passed (table_in l.self.looks.rows.now) l.self.order.now l.code l.row-index l.truths
