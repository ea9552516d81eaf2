-- The cells before the head have been handed on, and nothing more is true by them.
use Rattle.std.proofs.Common.{◌≤◌, ◌-◌}
use Rattle.table.specs.Rows.{table_in}
use Rattle.truths.specs.Found.{Taken}
use Rattle.truths.specs.Search.{AllTrue}
use Rattle.truths.proofs.Handing.{ClosedBy}
use Rattle.truths.proofs.asked.Asked.settle.Given as goal

abbrev pub invariant-loop-head : goal.invariant-loop-head
invariant-loop-head l = record {
  passed : l.head ≤ l.found.queue.len;
  right : AllTrue (table_in l.self.rows.now) l.self.spots.now l.fn.found.truth → AllTrue (table_in l.self.rows.now) l.self.spots.now l.found.truth;
  closed : ClosedBy (table_in l.self.rows.now) l.self.spots.now (Taken l.found.queue.items l.head) l.found.truth;
}

abbrev pub decreases-loop-head : goal.decreases-loop-head
decreases-loop-head l = 12240 - l.head
