-- The list so far is that of the rows passed.
use Rattle.std.proofs.Common.{◌≡◌, ◌≤◌, length, take}
use Rattle.meaning.specs.Table.{looks}
use Rattle.table.specs.Rows.{table_in}
use Rattle.counts.specs.Counts.{LookRows}
use Rattle.counts.proofs.look_rows_of.Given as goal

abbrev pub invariant-loop-i : goal.invariant-loop-i
invariant-loop-i l = (l.m ≡ looks (take l.i (table_in l.rows))) × (l.m ≤ l.i) × (length l.look_rows ≡ 48) × LookRows (take l.i (table_in l.rows)) l.look_rows
