use Rattle.std.proofs.Common.{rules}
use Rattle.table.proofs.Decides.{refuted}
use Rattle.reader.proofs.Tables.{row_added}
use Rattle.reader.proofs.read_text.Goals as goal

pub loop-rest-preserved : goal.loop-rest-preserved
loop-rest-preserved c =
    row_added c.loop-rest.invariant c.add_row.ensures (refuted c.is_empty-in-loop-rest.ensures c.loop-rest-test.true) c.if-n-eq-ROWS.false (search rules) (c.exists.ensures.sound c.if-not-exists.false)
