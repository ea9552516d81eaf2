-- The list so far is that of the rows passed.
use Rattle.std.proofs.Common.{◌≡◌, ◌≤◌, length, take}
use Rattle.meaning.specs.Table.{looks}
use Rattle.table.specs.Rows.{table_in}
use Rattle.counts.specs.Counts.{Places}
use Rattle.counts.proofs.places_of.Given as goal

abbrev pub invariant-loop-i : goal.invariant-loop-i
invariant-loop-i l = (l.passed ≡ looks (take l.i (table_in l.rows))) × (l.passed ≤ l.i) × (length l.places ≡ 48) × Places (take l.i (table_in l.rows)) l.places
