-- What was passed is settled, if nothing new was found.
use Rattle.std.proofs.Common.{◌≡◌}
use Rattle.table.specs.Rows.{table_in}
use Rattle.loops.specs.Closing.{RowsDone, Before, Passed}
use Rattle.loops.proofs.pairs.Pairs.pass.Given as goal

abbrev pub invariant-loop-i : goal.invariant-loop-i
invariant-loop-i l = (l.self.rows.now ≡ l.fn.self.rows.now) × Passed (RowsDone (table_in l.fn.self.rows.now) l.i) l.fn.self.found l.self.found l.more

abbrev pub invariant-loop-j : goal.invariant-loop-j
invariant-loop-j l = (l.self.rows.now ≡ l.fn.self.rows.now) × Passed (Before (table_in l.fn.self.rows.now) l.i l.j) l.fn.self.found l.self.found l.more
