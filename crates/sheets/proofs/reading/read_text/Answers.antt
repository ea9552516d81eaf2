use Rattle.std.proofs.Common.{rules}
use Rattle.table.proofs.Decides.{refuted}
use Rattle.sheets.proofs.Sheets.{line_added}
use Rattle.sheets.proofs.reading.read_text.Goals as goal

pub loop-rest-preserved : goal.loop-rest-preserved
loop-rest-preserved c =
    line_added c.loop-rest.invariant c.add_line.ensures (refuted c.is_empty-in-loop-rest.ensures c.loop-rest-test.true) c.if-n-eq-LINES.false (search rules)
