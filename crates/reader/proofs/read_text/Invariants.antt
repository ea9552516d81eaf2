-- The invariant is a `Turn`: the table holds the rows before the rest of the text, and the rest decides.
use Rattle.std.proofs.Common.{◌-◌}
use Rattle.meaning.specs.Table.{row_limit}
use Rattle.table.specs.Rows.{rows_of}
use Rattle.reader.proofs.Tables.{tables}
use Rattle.reader.proofs.Turns.{Turn}
use Rattle.reader.proofs.read_text.Given as goal

abbrev pub invariant-loop-rest : goal.invariant-loop-rest
invariant-loop-rest l = Turn tables l.text l.t.rows.len (rows_of l.t) l.rest

abbrev pub decreases-loop-rest : goal.decreases-loop-rest
decreases-loop-rest l = row_limit - l.t.rows.len
